-- What a worker's pass has put, unit after unit.
use Rattle.std.proofs.Common.{◌≡◌, ℕ, zero, suc, ◌+◌, ◌<◌, List, [], ◌∷◌, ◌++◌, length, map, ap, sym, ◌∙◌, arith}
use Rattle.std.proofs.lemmas.List.{length-append, length-map}
use Rattle.std.proofs.lemmas.List.Sums.{sum_by_push}
use Rattle.po_model.specs.declared.pair.Pair.{Pair}
use Rattle.po_model.specs.Pairs.{PlainPair, pair_of}
use Rattle.po_queue.specs.Passes.{QueueId, PassView}
use Rattle.po_rule.specs.Posts.{RoseBy}
use Rattle.po_crew.specs.Posted.{ArePosted, taken_of}
use Rattle.po_tally.specs.declared.brief.Brief.{Brief}
use Rattle.po_team.specs.Ways.{PostHome, PostView, home_of, RemembersFull}
use Rattle.po_team.specs.Works.{IsPosting, Puts, taken_in, dropped_in}

-- a count that has risen by so many isn't 0 where it wasn't before, or where it rose
not_zero : (n a b : ℕ) → RoseBy n a b → 0 < a + n → 0 < b
not_zero n a b h some = omega (arith, h, some)

-- what a post did with the misses of a unit
pub post_puts : (misses : List PlainPair) (p q : PostView Pair) (taken dropped : ℕ)
    → ArePosted misses (map pair_of p.pass.puts) (map pair_of q.pass.puts) p.fulls q.fulls taken dropped
    → home_of q ≡ home_of p → RemembersFull q → Puts p.pass p.fulls q.pass q.fulls taken dropped
post_puts misses p q taken dropped h same full = record {
  queue = ap (λ (x : PostHome Pair). x.queue) same;
  parts = ap (λ (x : PostHome Pair). x.parts) same;
  takes = ap (λ (x : PostHome Pair). x.takes) same;
  put = omega (
    arith,
    length-map p.pass.puts pair_of,
    length-map q.pass.puts pair_of,
    ap length h.took,
    length-append (map pair_of p.pass.puts) (taken_of h.answers misses),
    h.taken_count,
  );
  rose = not_zero dropped p.fulls q.fulls h.full;
  full = full;
}

rises : (d e f n : ℕ) → (0 < d → 0 < f) → (0 < f + e → 0 < n) → 0 < d + e → 0 < n
rises zero e f n g h some = h (omega (arith, some))
rises (suc d) e f n g h some = h (omega (arith, g (omega arith)))

module _ {T : Type 0} where
  -- one unit more
  pub posting_more : (queue : QueueId) (p q : PassView T) (fulls now : ℕ) (done : List Brief) (b : Brief)
      → IsPosting queue p fulls (taken_in done) (dropped_in done) → Puts p fulls q now b.taken b.dropped
      → IsPosting queue q now (taken_in (done ++ b ∷ [])) (dropped_in (done ++ b ∷ []))
  posting_more queue p q fulls now done b h g =
      let taken = sum_by_push (λ (x : Brief). x.taken) done b in
      let dropped = sum_by_push (λ (x : Brief). x.dropped) done b in
      record {
        queue_is = g.queue ∙ h.queue_is;
        part = g.parts ∙ h.part;
        takes = g.takes ∙ h.takes;
        put = g.put ∙ ap (λ n. n + b.taken) h.put ∙ sym taken;
        rose = λ some. rises (dropped_in done) b.dropped fulls now h.rose g.rose (omega (arith, some, dropped));
        full = g.full;
      }
