-- What a seat keeps through a turn.
use Rattle.std.proofs.Common.{◌≡◌, ℕ, ◌+◌, Bool, true, false, [], ◌∷◌, length, ap, ◌∙◌, arith}
use Rattle.std.proofs.lemmas.List.{length-append}
use Rattle.po_queue.specs.Passes.{QueueId, PassView, after_take}
use Rattle.po_team.specs.Seats.{HasLearned, most_lost}

module _ {T : Type 0} (queue : QueueId) (p q : PassView T) (x : T) (e : q ≡ after_take p x) where
  one_more : length q.takes ≡ length p.takes + 1
  one_more = ap (λ (v : PassView T). length v.takes) e ∙ length-append p.takes (x ∷ [])

  module _ (parts more amount new : ℕ) (refused : Bool) (bold : refused ≡ false) (same : more ≡ parts)
      (h : HasLearned queue p parts amount refused) where
    none_lost : most_lost refused ≡ 0
    none_lost = ap most_lost bold

    -- the pair that was taken was learned
    pub one_learned : new ≡ amount + 1 → HasLearned queue q more new false
    one_learned counted = record {
      queue_is = ap (λ (v : PassView T). v.queue) e ∙ h.queue_is;
      part = ap (λ (v : PassView T). v.parts) e ∙ h.part;
      puts = ap (λ (v : PassView T). v.puts) e ∙ h.puts;
      room = ap (λ (v : PassView T). v.met_full) e ∙ h.room;
      share = same ∙ h.share;
      taken = omega (arith, one_more, counted, h.taken);
      learned = omega (arith, one_more, counted, none_lost, h.learned);
    }

    -- the pair that was taken was lost
    pub one_lost : new ≡ amount → HasLearned queue q more new true
    one_lost counted = record {
      queue_is = ap (λ (v : PassView T). v.queue) e ∙ h.queue_is;
      part = ap (λ (v : PassView T). v.parts) e ∙ h.part;
      puts = ap (λ (v : PassView T). v.puts) e ∙ h.puts;
      room = ap (λ (v : PassView T). v.met_full) e ∙ h.room;
      share = same ∙ h.share;
      taken = omega (arith, one_more, counted, h.taken);
      learned = omega (arith, one_more, counted, none_lost, h.learned);
    }
