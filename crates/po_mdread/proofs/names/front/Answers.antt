use Rattle.std.proofs.Common.{◌≡◌, sym, length, min, arith}
use Rattle.std.proofs.lemmas.List.{take-map, take_min}
use Rattle.po_lines.specs.Words.{seen}
use Rattle.po_mdread.proofs.names.front.Goals as goal

pub returns : goal.returns
returns c =
    let few : c.min.result ≡ min c.args.count (length c.args.words.now) = omega (arith, c.min.ensures) in
    rw (few, take_min c.args.count c.args.words.now) (sym (take-map seen c.args.count c.args.words.now))
