-- From the end of a block: states that agree on what is live there agree on what is live where control leads.
use Rattle.std.proofs.Common.{◌≡◌, ℕ, suc, ◌<◌, ◌^◌, Bool, true, false, List, [], ◌∷◌, ◌++◌, length, map, refl, sym}
use Rattle.std.proofs.Common.{◌∙◌, ap, subst, arith}
use Rattle.std.specs.Prelude.{◌==◌, ◌||◌, nat_lt, if◌then◌else◌, All, Option, Some, None, ⊤}
use Rattle.std.specs.Option.{option_map}
use Rattle.std.proofs.Math.Path.{fun_ext}
use Rattle.std.proofs.lemmas.List.Elements.{All-head, All-tail}
use mathlib.Core.Logic.{inl, inr}
use Rattle.po_word.specs.Words.{rel_value}
use Rattle.po_term.specs.declared.term.Reg.{Reg as Register}
use Rattle.po_term.specs.declared.term.Reg.TheVariants.{Rv}
use Rattle.po_term.specs.declared.term.Sym.{Sym}
use Rattle.po_term.specs.declared.term.Label.{Label}
use Rattle.po_term.specs.Terms.{Place, InReg, State, IsState, value}
use Rattle.po_term.specs.Moves.{Ending, GoTo, IfCc, IfTwo, CallOf, Return, PlainInstr}
use Rattle.po_term.specs.Simplified.{reg_eq, same_register}
use Rattle.po_model.specs.declared.var.Var.{Var}
use Rattle.po_model.specs.declared.var.Var.TheVariants.{Reg}
use Rattle.po_model.specs.Blocks.{PlainBlock, instrs_at, EndsLast, block_ending, block_with, target_by, goes_on, is_at}
use Rattle.po_model.specs.Blocks.{ending_at, leads}
use Rattle.po_model.specs.Parts.{ending_of}
use Rattle.po_model.specs.Effect.{Control, Next, Jump, Called, Returned, Effected, after, branch, by_cc, goes, effect}
use Rattle.po_model.specs.LiveAfter.{is_reg, is_cc}
use Rattle.po_model.specs.Run.{Write, Reply, IsReply, Call, Before, Behind, Run, written, replied, if_there}
use Rattle.po_model.specs.Run.{stands_before, answered, leave, LiveWhere}
use Rattle.po_subst.proofs.Reading.{left_true, right_true}
use Rattle.po_slow.proofs.Passes.{label_of}
use Rattle.po_slow.proofs.Blockwise.{same_length, label_block}
use Rattle.po_slow.proofs.RunsRead.{Variables, Passing, Agree, agree_less, if_fits, reg_swap}
use Rattle.po_slow.proofs.RunsReplace.{doing, doing_next, alone}
use Rattle.po_slow.proofs.RunsWithin.{OutOf}

-- Where control may lead

module _ (code : List PlainBlock) where
  -- control goes so only behind this transfer
  abbrev pub MayGo : Option (Ending ℕ Place Sym) → Control → Type 0
  MayGo e Next = goes_on e ≡ true
  MayGo e (Jump l) = target_by code e ≡ block_with code l
  MayGo e (Called f ws) = goes_on e ≡ true
  MayGo e (Returned w) = ⊤

  branch_may : (e : Option (Ending ℕ Place Sym)) (b : Bool) (l : Label) → goes_on e ≡ true
      → target_by code e ≡ block_with code l → MayGo e (branch b l)
  branch_may e true l g t = t
  branch_may e false l g t = g

  may_go : (s : State) (e : Option (Ending ℕ Place Sym)) (c : Control) → goes s e ≡ Some c → MayGo e c
  may_go s None c g = let n : Next ≡ c = (cc) in subst (MayGo None) n refl
  may_go s (Some (GoTo l)) c g = let n : Jump l ≡ c = (cc) in subst (MayGo (Some (GoTo l))) n refl
  may_go s (Some (IfCc r l)) c g = go s.cc g
    where
      go : (o : Option (ℕ × ℕ)) → by_cc o r l ≡ Some c → MayGo (Some (IfCc r l)) c
      go None i = absurd (cc)
      go (Some p) i =
          let n : branch (rel_value r p.0 p.1) l ≡ c = (cc) in
          subst (MayGo (Some (IfCc r l))) n (branch_may (Some (IfCc r l)) (rel_value r p.0 p.1) l refl refl)
  may_go s (Some (IfTwo t u r l)) c g =
      let n : branch (rel_value r (value s t) (value s u)) l ≡ c = (cc) in
      subst (MayGo (Some (IfTwo t u r l))) n
      (branch_may (Some (IfTwo t u r l)) (rel_value r (value s t) (value s u)) l refl refl)
  may_go s (Some (CallOf f n)) c g = go c g
    where
      go : (c : Control) → goes s (Some (CallOf f n)) ≡ Some c → MayGo (Some (CallOf f n)) c
      go Next i = refl
      go (Jump l) i = absurd (cc)
      go (Called h ws) i = refl
      go (Returned w) i = tt
  may_go s (Some Return) c g = go c g
    where
      go : (c : Control) → goes s (Some Return) ≡ Some c → MayGo (Some Return) c
      go Next i = absurd (cc)
      go (Jump l) i = absurd (cc)
      go (Called h ws) i = absurd (cc)
      go (Returned w) i = tt

  effect_may : (x : PlainInstr) (s : State) (d : Effected) → effect x s ≡ Some d → MayGo (ending_of x) d.to
  effect_may x s d e = go (goes s (ending_of x)) refl e
    where
      go : (o : Option Control) → goes s (ending_of x) ≡ o
          → option_map (λ c. record { state = after s x; to = c }) o ≡ Some d → MayGo (ending_of x) d.to
      go None i j = absurd (cc)
      go (Some c) i j =
          let n : record { state = after s x; to = c } ≡ d = (cc) in
          may_go s (ending_of x) d.to (i ∙ ap (λ (z : Effected). Some z.to) n)

  -- behind a block, by its last instruction
  pub block_may : (xs : List PlainInstr) → EndsLast xs → (s : State) (d : Effected) → doing xs s ≡ Some d
      → MayGo (block_ending xs) d.to
  block_may [] k s d e =
      let n : record { state = s; to = Next } ≡ d = (cc) in subst (λ (z : Effected). MayGo None z.to) n refl
  block_may (x ∷ []) k s d e = effect_may x s d (sym (alone (effect x s)) ∙ e)
  block_may (x ∷ y ∷ ys) k s d e = block_may (y ∷ ys) k.1 (after s x) d (sym (doing_next x k.0 (y ∷ ys) s) ∙ e)

  at_some : (o : Option ℕ) (q : ℕ) → o ≡ Some q → is_at q o ≡ true
  at_some None q e = absurd (cc)
  at_some (Some p) q e = let n : p ≡ q = (cc) in rw n (grind arith)

  -- to the next block, and to one of a label
  next_leads : (b q : ℕ) → goes_on (ending_at code b) ≡ true → if_there code (suc b) ≡ Some q → leads code b q ≡ true
  next_leads b q g e =
      right_true (is_at q (target_by code (ending_at code b)))
      (is_at q
      (if nat_lt (suc b) (length code) then (if goes_on (ending_at code b) then Some (suc b) else None) else None))
      (rw g (at_some (if_there code (suc b)) q e))

  jump_leads : (b q : ℕ) (l : Label) → target_by code (ending_at code b) ≡ block_with code l
      → block_with code l ≡ Some q → leads code b q ≡ true
  jump_leads b q l t e =
      left_true (is_at q (target_by code (ending_at code b))) _ (at_some (target_by code (ending_at code b)) q (t ∙ e))

  -- what is live at the start of a block is live at the end of one that leads to it
  pub live_behind : (b q : ℕ) (v : Var) → leads code b q ≡ true → LiveWhere code (Before q) v → OutOf code b v
  live_behind b q v l (inl e) = inl e
  live_behind b q v l (inr r) = inr (record { block = q; rest = instrs_at code q } ∷ r.0, (refl, (l, refl), r.1))

-- A reply

written_same : (ws : List Write) (f g : ℕ → ℕ) → ((a : ℕ) → f a ≡ g a) → (a : ℕ) → written ws f a ≡ written ws g a
written_same [] f g h a = h a
written_same (w ∷ ws) f g h a =
    written_same ws (λ b. if b == w.address then w.word else f b) (λ b. if b == w.address then w.word else g b)
    (λ b. ap (λ x. if b == w.address then w.word else x) (h b)) a

abbrev IsWordWrite : Write → Type 0
IsWordWrite w = w.word < 2 ^ 32

written_fits : (ws : List Write) (f : ℕ → ℕ) → All IsWordWrite ws → ((a : ℕ) → f a < 2 ^ 32) → (a : ℕ)
    → written ws f a < 2 ^ 32
written_fits [] f h k a = k a
written_fits (w ∷ ws) f h k a =
    written_fits ws (λ b. if b == w.address then w.word else f b) (All-tail IsWordWrite w ws h)
    (λ b. if_fits (b == w.address) w.word (f b) (All-head IsWordWrite w ws h) (k b)) a

replied_fits : (r : Reply) (s : State) → IsReply r → IsState s → IsState (replied r s)
replied_fits r s h fits = record {
  places = λ p. if_fits (same_register p (InReg Rv)) r.word (s.place p) h.word (fits.places p);
  cells = written_fits r.writes s.memory h.writes fits.cells;
}

neither_is : (q : Register) → reg_eq q Rv ≡ false → (is_reg Rv (Reg q) || is_cc (Reg q)) ≡ false
neither_is q e = go (reg_eq Rv q) (reg_swap Rv q ∙ e)
  where
    go : (b : Bool) → b ≡ false → (b || false) ≡ false
    go true i = i
    go false i = refl

-- what isn't rv or cc agreed before the reply, and these are the same after it
replied_agree : (r : Reply) (f : Sym) (ws : List ℕ) (L : Variables) (s t : State) → IsReply r
    → Agree (Passing (Called f ws) L) s t → Agree L (replied r s) (replied r t)
replied_agree r f ws L s t h a = record {
  first = replied_fits r s h a.first;
  second = replied_fits r t h a.second;
  memory = written_same r.writes s.memory t.memory a.memory;
  symbols = a.symbols;
  registers = λ q l. in_register q l (reg_eq q Rv) refl;
  compared = λ l. refl;
}
  where
    in_register : (q : Register) → L (Reg q) → (b : Bool) → reg_eq q Rv ≡ b
        → (if b then r.word else s.place (InReg q)) ≡ (if b then r.word else t.place (InReg q))
    in_register q l true e = refl
    in_register q l false e = a.registers q (neither_is q e, l)

-- Runs that stand alike

-- two runs stand at the same place, with the same calls and replies, in states that agree on what is live there in the
-- code
pub record Together (code : List PlainBlock) (x y : Run) : Type 0 where
  pub stop : x.at ≡ y.at
  pub calls : x.calls ≡ y.calls
  pub replies : x.replies ≡ y.replies
  pub words : All IsReply x.replies
  pub agree : Agree (LiveWhere code x.at) x.state y.state

-- neither run has a result, or both have one and stand alike
abbrev pub BothStand : List PlainBlock → Option Run → Option Run → Type 0
BothStand code None None = ⊤
BothStand code (Some x) (Some y) = Together code x y
BothStand code None (Some y) = ⊥
BothStand code (Some x) None = ⊥

-- Two codes with the same labels

module _ (code next : List PlainBlock) (labels : map label_of next ≡ map label_of code) where
  stand : (b : ℕ) (o : Option ℕ) → ((q : ℕ) → o ≡ Some q → leads code b q ≡ true)
      → (s t : State) (calls made : List Call) (replies : List Reply)
      → calls ≡ made → All IsReply replies → Agree (OutOf code b) s t
      → BothStand code (stands_before code o s calls replies) (stands_before next o t made replies)
  stand b None l s t calls made replies e h a = tt
  stand b (Some q) l s t calls made replies e h a = record {
    stop = refl;
    calls = e;
    replies = refl;
    words = h;
    agree = agree_less (OutOf code b) (LiveWhere code (Before q)) s t (λ v k. live_behind code b q v (l q refl) k) a;
  }

  same_there : (b : ℕ) → if_there next b ≡ if_there code b
  same_there b = ap (λ n. if nat_lt b n then Some b else None) (same_length next code labels)

  call_stands : (b : ℕ) (f : Sym) (ws : List ℕ) (s t : State) (calls : List Call) (replies : List Reply)
      → goes_on (ending_at code b) ≡ true → All IsReply replies → Agree (Passing (Called f ws) (OutOf code b)) s t
      → BothStand code (answered code b f ws s calls replies) (answered next b f ws t calls replies)
  call_stands b f ws s t calls [] g h a = tt
  call_stands b f ws s t calls (r ∷ rs) g h a =
      rw (same_there (suc b))
      (stand b (if_there code (suc b)) (λ q e. next_leads code b q g e) (replied r s) (replied r t)
      (calls ++ record { name = f; words = ws; memory = s.memory } ∷ [])
      (calls ++ record { name = f; words = ws; memory = t.memory } ∷ []) rs
      (ap (λ (m : ℕ → ℕ). calls ++ record { name = f; words = ws; memory = m } ∷ []) (fun_ext a.memory))
      (All-tail IsReply r rs h) (replied_agree r f ws (OutOf code b) s t (All-head IsReply r rs h) a))

  -- from the end of the block b
  pub leave_stands : (b : ℕ) (c : Control) (s t : State) (calls : List Call) (replies : List Reply)
      → MayGo code (ending_at code b) c → All IsReply replies → Agree (Passing c (OutOf code b)) s t
      → BothStand code (leave code b s c calls replies) (leave next b t c calls replies)
  leave_stands b Next s t calls replies g h a =
      rw (same_there (suc b))
      (stand b (if_there code (suc b)) (λ q e. next_leads code b q g e) s t calls calls replies refl h a)
  leave_stands b (Jump l) s t calls replies g h a =
      rw (label_block 0 next code l labels)
      (stand b (block_with code l) (λ q e. jump_leads code b q l g e) s t calls calls replies refl h a)
  leave_stands b (Called f ws) s t calls replies g h a = call_stands b f ws s t calls replies g h a
  leave_stands b (Returned w) s t calls replies g h a = record {
    stop = refl;
    calls = refl;
    replies = refl;
    words = h;
    agree = agree_less (OutOf code b) (LiveWhere code (Behind w)) s t (λ v e. inl e) a;
  }
