use Rattle.std.proofs.Common.{arith}
use Rattle.std.proofs.lemmas.List.{with_items_is}
use Rattle.std.proofs.lemmas.List.Elements.{All-same}
use Rattle.po_core.specs.Views.{IsFormedFore}
use Rattle.po_core.proofs.state.Core.post.Goals as goal

pub returns-in-Some-clause-formed : goal.returns-in-Some-clause-formed
returns-in-Some-clause-formed c =
    let s = c.args.self.now in
    record {
      within = c.requires.formed.within;
      fores = All-same IsFormedFore _ c.take_posted_at.new.fores (with_items_is s.fores c.take_posted_at.new.fores
          (omega (arith, c.take_posted_at.auto.fores, c.deref_mut.ensures.len)))
          (c.take_posted_at.ensures.formed
          (All-same IsFormedFore c.deref_mut.result.now s.fores.items c.deref_mut.ensures.value
          c.requires.formed.fores));
    }

pub returns-in-None-clause-formed : goal.returns-in-None-clause-formed
returns-in-None-clause-formed c =
    let s = c.args.self.now in
    record {
      within = c.requires.formed.within;
      fores = All-same IsFormedFore _ c.take_posted_at.new.fores (with_items_is s.fores c.take_posted_at.new.fores
          (omega (arith, c.take_posted_at.auto.fores, c.deref_mut.ensures.len)))
          (c.take_posted_at.ensures.formed
          (All-same IsFormedFore c.deref_mut.result.now s.fores.items c.deref_mut.ensures.value
          c.requires.formed.fores));
    }
