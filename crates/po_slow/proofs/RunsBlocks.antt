-- Runs of a code and of what a pass makes of it, block by block.
use Rattle.std.proofs.Common.{◌≡◌, ℕ, zero, suc, List, map, refl, sym, ◌∙◌, subst}
use Rattle.std.specs.Prelude.{All, Option, Some, None}
use Rattle.po_term.specs.Terms.{State}
use Rattle.po_model.specs.declared.var.Var.{Var}
use Rattle.po_model.specs.Blocks.{PlainBlock, instrs_at, EndsLast, ending_at}
use Rattle.po_model.specs.Effect.{Control, Effected}
use Rattle.po_model.specs.Run.{Reply, IsReply, Call, Stop, Before, Behind, Run, leave_done, run_block, and_run}
use Rattle.po_model.specs.Run.{own_doings, run, LiveWhere}
use Rattle.po_slow.proofs.Passes.{label_of}
use Rattle.po_slow.proofs.RunsRead.{Agree, Alike, alike_joins, agree_less, agree_self, agree_joins}
use Rattle.po_slow.proofs.RunsReplace.{doing, Back, AreFormed, Replaces, doing_agree}
use Rattle.po_slow.proofs.RunsWithin.{OutOf, back_live}
use Rattle.po_slow.proofs.RunsLeave.{MayGo, block_may, Together, BothStand, leave_stands}
use Rattle.po_model.specs.LiveAfter.{IsLiveAt}

-- Runs that stand alike

-- what is live in the second code is live in the first
abbrev pub LivesIn : List PlainBlock → List PlainBlock → Type 0
LivesIn next code = (b : ℕ) (v : Var) → IsLiveAt next b v → IsLiveAt code b v

lives_where : (next code : List PlainBlock) → LivesIn next code → (p : Stop) (v : Var) → LiveWhere next p v
    → LiveWhere code p v
lives_where next code h (Before b) v l = h b v l
lives_where next code h (Behind w) v l = l

together_less : (next code : List PlainBlock) → LivesIn next code → (x y : Run) → Together code x y → Together next x y
together_less next code h x y t = record {
  stop = t.stop;
  calls = t.calls;
  replies = t.replies;
  words = t.words;
  agree =
      agree_less (LiveWhere code x.at) (LiveWhere next x.at) x.state y.state (lives_where next code h x.at) t.agree;
}

pub both_less : (next code : List PlainBlock) → LivesIn next code → (o p : Option Run) → BothStand code o p
    → BothStand next o p
both_less next code h None None t = tt
both_less next code h (Some x) (Some y) t = together_less next code h x y t
both_less next code h None (Some y) t = absurd t
both_less next code h (Some x) None t = absurd t

-- the second run stands like itself, by what is live in any code
second_together : (code next : List PlainBlock) (x y : Run) → Together code x y → Together next y y
second_together code next x y t = record {
  stop = refl;
  calls = refl;
  replies = refl;
  words = subst (λ (rs : List Reply). All IsReply rs) t.replies t.words;
  agree = agree_self (LiveWhere next y.at) y.state t.agree.second;
}

pub both_join : (code : List PlainBlock) (o p q : Option Run) → BothStand code o p → BothStand code p q
    → BothStand code o q
both_join code None None q h k = k
both_join code (Some x) (Some y) (Some z) h k = record {
  stop = h.stop ∙ k.stop;
  calls = h.calls ∙ k.calls;
  replies = h.replies ∙ k.replies;
  words = h.words;
  agree =
      agree_joins (LiveWhere code x.at) x.state y.state z.state h.agree
      (subst (λ (p : Stop). Agree (LiveWhere code p) y.state z.state) (sym h.stop) k.agree);
}
both_join code (Some x) (Some y) None h k = absurd k
both_join code None (Some y) q h k = absurd h
both_join code (Some x) None q h k = absurd h

-- A code, and another whose blocks do what its blocks do

module _ (code next : List PlainBlock) (labels : map label_of next ≡ map label_of code)
    (formed : (b : ℕ) → AreFormed (instrs_at code b)) (ends : (b : ℕ) → EndsLast (instrs_at code b))
    (same : (b : ℕ) → Replaces (OutOf code b) (instrs_at code b) (instrs_at next b)) where
  -- one block of both, from states that agree
  block_alike : (b : ℕ) (s t : State) → Agree (LiveWhere code (Before b)) s t
      → Alike (OutOf code b) (doing (instrs_at code b) s) (doing (instrs_at next b) t)
  block_alike b s t a =
      alike_joins (OutOf code b) (doing (instrs_at code b) s) (doing (instrs_at code b) t) (doing (instrs_at next b) t)
      (doing_agree (OutOf code b) (instrs_at code b) s t (formed b) (ends b)
      (agree_less (LiveWhere code (Before b)) (Back (instrs_at code b) (OutOf code b)) s t
      (λ v h. back_live code b (instrs_at code b) v h) a))
      (same b t a.second)

  done_stands : (b : ℕ) (o p : Option Effected) (calls : List Call) (replies : List Reply)
      → ((d : Effected) → o ≡ Some d → MayGo code (ending_at code b) d.to) → All IsReply replies
      → Alike (OutOf code b) o p
      → BothStand code (leave_done code b o calls replies) (leave_done next b p calls replies)
  done_stands b None None calls replies g h a = tt
  done_stands b (Some d) (Some e) calls replies g h a =
      subst (λ (c : Control). BothStand code (leave_done code b (Some d) calls replies)
      (leave_done next b (Some (record { state = e.state; to = c })) calls replies)) a.0
      (leave_stands code next labels b d.to d.state e.state calls replies (g d refl) h a.1)
  done_stands b None (Some e) calls replies g h a = absurd a
  done_stands b (Some d) None calls replies g h a = absurd a

  block_stands : (x y : Run) → Together code x y
      → BothStand code (run_block code (own_doings code) x.at x) (run_block next (own_doings next) y.at y)
  block_stands x y h =
      subst (λ (p : Stop).
      BothStand code (run_block code (own_doings code) x.at x) (run_block next (own_doings next) p y)) h.stop
      (go x.at refl)
    where
      go : (p : Stop) → x.at ≡ p
          → BothStand code (run_block code (own_doings code) p x) (run_block next (own_doings next) p y)
      go (Before b) e =
          let a : Agree (LiveWhere code (Before b)) x.state y.state =
          subst (λ (p : Stop). Agree (LiveWhere code p) x.state y.state) e h.agree in
          rw (← h.calls, ← h.replies)
          (done_stands b (doing (instrs_at code b) x.state) (doing (instrs_at next b) y.state) x.calls x.replies
          (λ d i. block_may code (instrs_at code b) (ends b) x.state d i) h.words (block_alike b x.state y.state a))
      go (Behind w) e = h

  -- n blocks of both
  pub blocks_stand : (n : ℕ) (x y : Run) → Together code x y → BothStand code (run code n x) (run next n y)
  blocks_stand zero x y h = h
  blocks_stand (suc n) x y h =
      go (run_block code (own_doings code) x.at x) (run_block next (own_doings next) y.at y) (block_stands x y h)
      (λ z w k. blocks_stand n z w k)
    where
      go : (o p : Option Run) → BothStand code o p
          → ((z w : Run) → Together code z w → BothStand code (run code n z) (run next n w))
          → BothStand code (and_run code (own_doings code) (run code n) o)
          (and_run next (own_doings next) (run next n) p)
      go None None t ih = tt
      go (Some z) (Some w) t ih = ih z w t
      go None (Some w) t ih = absurd t
      go (Some z) None t ih = absurd t

-- What a code becomes

-- the code that is made of a code has the same labels, makes nothing live, and runs as it does
pub record RunsAs (code next : List PlainBlock) : Type 0 where
  pub lives : LivesIn next code
  pub runs : (n : ℕ) (x y : Run) → Together code x y → BothStand next (run code n x) (run next n y)

pub runs_join : (a b c : List PlainBlock) → RunsAs a b → RunsAs b c → RunsAs a c
runs_join a b c f g = record {
  lives = λ n v l. f.lives n v (g.lives n v l);
  runs = λ n x y h.
      both_join c (run a n x) (run b n y) (run c n y)
      (both_less c b g.lives (run a n x) (run b n y) (f.runs n x y h))
      (g.runs n y y (second_together a b x y h));
}
