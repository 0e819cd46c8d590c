use Rattle.std.proofs.Common.{◌≡◌, ◌∙◌, map, sym, ap, Some}
use Rattle.std.proofs.lemmas.Result.{IfOk-weaker}
use Rattle.po_model.specs.Blocks.{block_of}
use Rattle.po_model.specs.Pairs.{pair_of}
use Rattle.po_model.specs.Scanned.{pair_ready}
use Rattle.po_slow.specs.declared.state.Ask.TheVariants as ask
use Rattle.po_slow.specs.States.{scan_by, scan_of, Asks}
use Rattle.po_slow.proofs.Keeping.{formed_ready}
use Rattle.po_slow.proofs.state.ScanState.pair.Goals as goal

pub returns : goal.returns
returns c =
    let s = c.args.self.now in
    let there : pair_ready (scan_of s) ≡ pair_ready (scan_by (map block_of c.deref.result.now) s.lives s.block s.at)
    = ap (λ l. pair_ready (scan_by (map block_of l) s.lives s.block s.at)) (sym c.deref.ensures.value) in
    IfOk-weaker c.copy_within.result
    (λ p. pair_ready (scan_by (map block_of c.deref.result.now) s.lives s.block s.at) ≡ Some (pair_of p))
    (λ p. Asks (scan_of s) (ask.Pair p))
    (λ p e. (there ∙ e, formed_ready (scan_of s) (pair_of p) c.requires.formed.formed (there ∙ e)))
    c.copy_within.ensures
