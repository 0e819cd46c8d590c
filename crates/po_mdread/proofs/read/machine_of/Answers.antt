use Rattle.std.proofs.Common.{◌≡◌, ap, ◌∙◌, subst, refl, Ok, arith, List}
use Rattle.po_lines.specs.Lines.{Ahead, Numbered, lines_behind}
use Rattle.po_lines.specs.Reading.{read_each}
use Rattle.po_mdread.specs.declared.sofar.Sofar.TheVariants.{ToMachine, Ended}
use Rattle.po_mdread.specs.Description.{BeginWith}
use Rattle.po_mdread.specs.Reading.{step, start}
use Rattle.po_mdread.proofs.Allowed.{IsFine, none_fine, each_fine, machine_is}
use Rattle.po_mdread.proofs.Spots.{behind_end}
use Rattle.po_mdread.proofs.Written.{read_begins}
use Rattle.po_mdread.proofs.read.machine_of.Goals as goal

pub returns-in-Ended-clause-allowed : goal.returns-in-Ended-clause-allowed
returns-in-Ended-clause-allowed c =
    let fine = each_fine c.behind-lines.result.lines ToMachine c.in-Ok.sofar c.in-Ok.ensures.gets none_fine in
    machine_is c.in-Ended.machine c.in-Ended.at (subst IsFine c.in-Ended.is fine)

pub returns-in-Ended-clause-written : goal.returns-in-Ended-clause-written
returns-in-Ended-clause-written c =
    let lines : List Numbered = c.behind-lines.result.lines in
    let are : lines ≡ lines_behind start c.args.text.now = ap (λ (a : Ahead). a.lines) c.behind-lines.ensures in
    let read : read_each step ToMachine lines ≡ Ok (Ended c.in-Ended.machine c.in-Ended.at) = c.in-Ok.ensures.gets
    ∙ ap Ok c.in-Ended.is in
    subst (λ (ls : List Numbered). BeginWith ls c.in-Ended.machine c.in-Ended.at) are
    (read_begins lines c.in-Ended.machine c.in-Ended.at read)

pub returns-in-Ended-clause-spot : goal.returns-in-Ended-clause-spot
returns-in-Ended-clause-spot c =
    let lines : List Numbered = c.behind-lines.result.lines in
    let are : lines ≡ lines_behind start c.args.text.now = ap (λ (a : Ahead). a.lines) c.behind-lines.ensures in
    let read : read_each step ToMachine lines ≡ Ok (Ended c.in-Ended.machine c.in-Ended.at) = c.in-Ok.ensures.gets
    ∙ ap Ok c.in-Ended.is in
    let b = behind_end lines start c.args.text.now ToMachine c.in-Ended.machine c.in-Ended.at (omega arith) are refl
    read in
    let counted = b.counted in
    record { within = b.within; counted = omega arith; front = b.front; cut = b.cut }
