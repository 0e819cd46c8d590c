-- The steps of compiling, one after another.
use Rattle.std.proofs.Common.{◌≡◌, ℕ, ◌++◌, List, All, map, length, ap, sym, ◌∙◌, subst, Result, Ok, Err}
use Rattle.std.specs.Prelude.{IfOk}
use Rattle.std.specs.Arc.{arc_value}
use Rattle.std.proofs.lemmas.List.{length-map}
use Rattle.std.specs.List.{AllZip}
use Rattle.po_ir.specs.declared.unit.Unit.{Unit as StackUnit}
use Rattle.po_model.specs.declared.machine.Machine.{Machine}
use Rattle.po_model.specs.Machines.{IsMachine}
use Rattle.po_model.specs.declared.code.UnitCode.{UnitCode}
use Rattle.po_model.specs.Naive.{naive}
use Rattle.po_model.specs.UnitCodes.{PlainUnit, IsUnitCode, unit_of}
use Rattle.po_compile.specs.declared.mode.Mode.{Mode}
use Rattle.po_compile.specs.declared.refusal.Refusal.{Refusal}
use Rattle.po_compile.specs.declared.refusal.Refusal.TheVariants as refusal
use Rattle.po_compile.specs.declared.begun.Begun.{Begun}
use Rattle.po_compile.specs.declared.input.Program.{Program}
use Rattle.po_compile.specs.Input.{program_of, input_in}
use Rattle.po_compile.specs.Begun.{IsBegun, IsUnbegun}
use Rattle.po_compile.specs.Modes.{IsCodeIn}
use Rattle.po_compile.specs.Output.{AllFit, HasRoom, AreAssembled, IsOutput, IsOutputOf, naive_codes}
use Rattle.po_compile.specs.Rules.{AreRulesIn}
use Rattle.po_compile.specs.Statuses.{HasCause}
use Rattle.po_compile.specs.Steps.{units_of, Assigned}
use Rattle.po_compile.proofs.Runs.{codes_run}
use Rattle.po_compile.proofs.Slowed.{made_fits}

-- there is a naive code for each unit
pub count_of : (codes : List UnitCode) (us seen : List StackUnit) → units_of codes ≡ map naive seen → seen ≡ us
    → length codes ≡ length us
count_of codes us seen e s =
    sym (length-map codes unit_of) ∙ ap length e ∙ length-map seen naive ∙ ap length s

-- naive code that is recognised, and the codes that the mode makes of it
pub record IsMade (mode : Mode) (m : Machine) (us : List StackUnit) (made : List PlainUnit) : Type 0 where
  pub fits : All (AllFit m) (naive_codes us)
  pub naive_formed : All IsUnitCode (naive_codes us)
  pub codes : AllZip (IsCodeIn mode m) (naive_codes us) made
  pub formed : All IsUnitCode made

pub made_of : (mode : Mode) (text : List ℕ) (m : Machine) (naive made : List PlainUnit) (b : IsBegun text m naive)
    → AllZip (IsCodeIn mode m) naive made → All IsUnitCode made → IsMade mode m b.units made
made_of mode text m naive made b codes formed = record {
  fits = subst (λ (us : List PlainUnit). All (AllFit m) us) b.codes b.fits;
  naive_formed = subst (λ (us : List PlainUnit). All IsUnitCode us) b.codes b.formed;
  codes = subst (λ (us : List PlainUnit). AllZip (IsCodeIn mode m) us made) b.codes codes;
  formed = formed;
}

pub output_of : (mode : Mode) (m : Machine) (us : List StackUnit) (made placed : List PlainUnit)
    (assembly rules out : List ℕ) → IsMachine m → IsMade mode m us made → All (HasRoom m) made → placed ≡ made
    → AreAssembled m placed assembly → AreRulesIn mode m (naive_codes us) rules → out ≡ assembly ++ rules
    → IsOutputOf mode m us out
output_of mode m us made placed assembly rules out is h room same assembled are_rules text = record {
  fits = h.fits;
  made = made;
  codes = h.codes;
  fit = made_fits mode m (naive_codes us) made is h.codes h.naive_formed h.fits;
  room = room;
  assembly = assembly;
  assembled = subst (λ (vs : List PlainUnit). AreAssembled m vs assembly) same assembled;
  rules = rules;
  are_rules = are_rules;
  text = text;
  runs = codes_run mode m us made is h.codes h.naive_formed room;
}

-- the output for what a mode makes of the naive codes of a text
pub compiled : (mode : Mode) (text : List ℕ) (m : Machine) (naive made placed : List PlainUnit)
    (assembly rules out : List ℕ) → IsMachine m → IsBegun text m naive → AllZip (IsCodeIn mode m) naive made
    → All IsUnitCode made → All (HasRoom m) made → placed ≡ made → AreAssembled m placed assembly
    → AreRulesIn mode m naive rules → out ≡ assembly ++ rules → IsOutput mode text out
compiled mode text m naive made placed assembly rules out is b codes formed room same assembled are_rules e = (
  m,
  b.units,
  b.input,
  output_of mode m b.units made placed assembly rules out is
      (made_of mode text m naive made b codes formed) room same assembled
      (subst (λ (us : List PlainUnit). AreRulesIn mode m us rules) b.codes are_rules) e,
)

-- the cause that there is none
pub refused : (mode : Mode) (text : List ℕ) (m : Machine) (naive made : List PlainUnit) (r : Refusal)
    → IsBegun text m naive → AllZip (IsCodeIn mode m) naive made → All IsUnitCode made → Assigned m made (Err r)
    → HasCause mode text r
refused mode text m naive made (refusal.BadText line col kind) b codes formed a = absurd a
refused mode text m naive made (refusal.Unrecognised unit block index) b codes formed a = absurd a
refused mode text m naive made (refusal.TooFew unit point needed) b codes formed a =
    let h = made_of mode text m naive made b codes formed in
    (m, b.units, b.input, record { fits = h.fits; made = made; codes = h.codes; crowded = a })
refused mode text m naive made refusal.OutOfMemory b codes formed a = tt

-- what was prepared of a program that the text tells of
pub begun_so : (text : List ℕ) (p : Program) (r : Result Begun Refusal) → input_in text ≡ Ok (program_of p)
    → IfOk r (λ b. arc_value b.machine ≡ p.machine) → IfOk r (λ b. units_of b.codes.items ≡ naive_codes p.units)
    → IfOk r (λ b. All (AllFit p.machine) (units_of b.codes.items))
    → IfOk r (λ b. All IsUnitCode (units_of b.codes.items))
    → IfOk r (λ b. IsBegun text (arc_value b.machine) (units_of b.codes.items))
begun_so text p (Ok b) e m naive fits formed =
    subst (λ (n : Machine). IsBegun text n (units_of b.codes.items)) (sym m)
    (record { units = p.units; input = e; codes = naive; fits = fits; formed = formed })
begun_so text p (Err r) e m naive fits formed = tt

-- the cause that a text has no naive codes is one in each mode
pub unbegun : (mode : Mode) (text : List ℕ) (r : Refusal) → IsUnbegun text r → HasCause mode text r
unbegun mode text (refusal.BadText line col kind) h = h
unbegun mode text (refusal.Unrecognised unit block index) h = h
unbegun mode text (refusal.TooFew unit point needed) h = absurd h
unbegun mode text refusal.OutOfMemory h = tt
