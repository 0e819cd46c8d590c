use Rattle.std.proofs.Common.{◌≡◌, sym, length, min, arith}
use Rattle.std.proofs.lemmas.List.{drop-map, take_rest}
use Rattle.po_lines.specs.Words.{seen}
use Rattle.po_mdread.proofs.NameTurns.{drop_min}
use Rattle.po_mdread.proofs.names.back.Goals as goal

pub returns : goal.returns
returns c =
    let few : c.min.result ≡ min c.args.count (length c.args.words.now) = omega (arith, c.min.ensures) in
    rw (take_rest c.args.words.now c.min.result, few, drop_min c.args.count c.args.words.now)
    (sym (drop-map seen c.args.count c.args.words.now))
