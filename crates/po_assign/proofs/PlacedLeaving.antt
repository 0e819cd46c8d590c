-- Where a run of the placed code goes from the end of a block, and what the states agree on there.
use Rattle.std.proofs.Common.{◌≡◌, ℕ, suc, Bool, true, false, List, [], ◌∷◌, ◌++◌, length, refl, sym, ◌∙◌, ap, subst}
use Rattle.std.proofs.Common.{inl, inr, eq-eqb}
use Rattle.std.specs.Prelude.{◌==◌, ◌||◌, not, nat_lt, if◌then◌else◌, Option, Some, None}
use mathlib.Core.Path.{fun_ext}
use Rattle.po_term.specs.declared.term.Reg.{Reg as Register}
use Rattle.po_term.specs.declared.term.Reg.TheVariants.{Virt, Fp, Rv, Arg}
use Rattle.po_term.specs.declared.term.Sym.{Sym}
use Rattle.po_term.specs.declared.term.Label.{Label}
use Rattle.po_term.specs.Terms.{InReg, AtSym, State}
use Rattle.po_term.specs.Simplified.{reg_eq}
use Rattle.po_model.specs.declared.machine.Machine.{Machine}
use Rattle.po_model.specs.declared.var.Var.{Var}
use Rattle.po_model.specs.declared.var.Var.TheVariants.{Reg, Cc}
use Rattle.po_model.specs.Blocks.{PlainBlock, instrs_at, block_with, target_by, ending_at, next_at, goes_on, is_at}
use Rattle.po_model.specs.Blocks.{leads}
use Rattle.po_model.specs.Effect.{Control, Next, Jump, Called, Returned, Effected}
use Rattle.po_model.specs.LiveAfter.{is_reg, is_cc, IsLive}
use Rattle.po_model.specs.Run.{Write, Reply, Call, Before, LiveWhere, Same, SameResult, written as written_to}
use Rattle.po_model.specs.Run.{replied, stands_before, answered, leave, leave_done}
use Rattle.po_model.specs.Placed.{place_of}
use Rattle.po_assign.proofs.Boundary.{or_left, or_right}
use Rattle.po_assign.proofs.PlacedReads.{Holds}
use Rattle.po_assign.proofs.Controls.{reg_swap, Comes}
use Rattle.po_assign.proofs.PlacedSteps.{Agree, Ended}

writes_same : (ws : List Write) (f g : ℕ → ℕ) → ((a : ℕ) → f a ≡ g a) → (a : ℕ) → written_to ws f a ≡ written_to ws g a
writes_same [] f g h a = h a
writes_same (w ∷ ws) f g h a = writes_same ws (λ b. if b == w.address then w.word else f b) (λ b. if b == w.address
    then w.word else g b) (λ b. rw (h b) refl) a

-- the word of a reply is in rv, and nowhere else
rv_word : (b : Bool) (w x y : ℕ) → (b ≡ false → x ≡ y) → (if b then w else x) ≡ (if b then w else y)
rv_word true w x y h = refl
rv_word false w x y h = h refl

-- rv has its own place, and no other register has it
not_rv : (at : ℕ → ℕ) (r : Register) → reg_eq (place_of at r) Rv ≡ reg_eq r Rv
not_rv at (Virt v) = refl
not_rv at Fp = refl
not_rv at Rv = refl
not_rv at (Arg k) = refl

kept_by_call : (b : Bool) → b ≡ false → not (b || false) ≡ true
kept_by_call b e = rw e refl

module _ (m : Machine) (at : ℕ → ℕ) (code : List PlainBlock) where
  -- a reply makes rv and cc alike
  replied_holds : (r : Reply) (s t : State) (v : Var) → (not (is_reg Rv v || is_cc v) ≡ true → Holds at s t v)
      → Holds at (replied r s) (replied r t) v
  replied_holds r s t (Reg q) h =
      rw (not_rv at q) (rv_word (reg_eq q Rv) r.word (s.place (InReg q)) (t.place (InReg (place_of at q)))
      (λ n. h (kept_by_call (reg_eq Rv q) (reg_swap Rv q ∙ n))))
  replied_holds r s t Cc h = refl

  -- live at the start of a block that may follow: live at the end of this one
  live_from : (v : Var) (b q : ℕ) → leads code b q ≡ true
      → IsLive code v (record { block = q; rest = instrs_at code q }) → IsLive code v (record { block = b; rest = [] })
  live_from v b q e (inl f) = inl f
  live_from v b q e (inr r) = inr (record { block = q; rest = instrs_at code q } ∷ r.0, (refl, (e, refl), r.1))

  abbrev next_if : ℕ → Bool → Bool → Option ℕ
  next_if b there goes = if there then (if goes then Some (suc b) else None) else None

  leads_behind : (b : ℕ) → nat_lt (suc b) (length code) ≡ true → goes_on (ending_at code b) ≡ true
      → leads code b (suc b) ≡ true
  leads_behind b there goes =
      or_right (is_at (suc b) (target_by code (ending_at code b))) (is_at (suc b) (next_at code b))
      (subst (λ c. is_at (suc b) (next_if b c (goes_on (ending_at code b))) ≡ true) (sym there)
      (subst (λ c. is_at (suc b) (next_if b true c) ≡ true) (sym goes) (eq-eqb (suc b) (suc b) refl)))

  leads_to : (b q : ℕ) (l : Label) → target_by code (ending_at code b) ≡ block_with code l → block_with code l
      ≡ Some q → leads code b q ≡ true
  leads_to b q l e f =
      or_left (is_at q (target_by code (ending_at code b))) (is_at q (next_at code b))
      (subst (λ o. is_at q o ≡ true) (sym (e ∙ f)) (eq-eqb q q refl))

  -- two runs that stand before one block
  stand_alike : (q : ℕ) (s t : State) (calls others : List Call) (replies : List Reply) → calls ≡ others
      → ((a : ℕ) → s.memory a ≡ t.memory a) → ((y : Sym) → s.place (AtSym y) ≡ t.place (AtSym y))
      → ((v : Var) → LiveWhere code (Before q) v → Holds at s t v)
      → Same code (place_of at) (record { state = s; at = Before q; calls = calls; replies = replies })
      (record { state = t; at = Before q; calls = others; replies = replies })
  stand_alike q s t calls others replies e memory symbols live = record {
    stop = refl;
    calls = e;
    replies = refl;
    memory = memory;
    symbols = symbols;
    places = λ r l. live (Reg r) l;
    compared = λ l. live Cc l;
  }

  -- the next block
  behind_alike : (b : ℕ) (there : Bool) (s t : State) (calls others : List Call) (replies : List Reply)
      → nat_lt (suc b) (length code) ≡ there → goes_on (ending_at code b) ≡ true
      → calls ≡ others → ((a : ℕ) → s.memory a ≡ t.memory a) → ((y : Sym) → s.place (AtSym y) ≡ t.place (AtSym y))
      → ((v : Var) → IsLive code v (record { block = b; rest = [] }) → Holds at s t v)
      → SameResult code (place_of at) (stands_before code (if there then Some (suc b) else None) s calls replies)
      (stands_before code (if there then Some (suc b) else None) t others replies)
  behind_alike b true s t calls others replies there goes e memory symbols live =
      stand_alike (suc b) s t calls others replies e memory symbols
      (λ v l. live v (live_from v b (suc b) (leads_behind b there goes) l))
  behind_alike b false s t calls others replies there goes e memory symbols live = tt

  -- the block of a label
  target_alike : (b : ℕ) (l : Label) (o : Option ℕ) (s t : State) (calls : List Call) (replies : List Reply)
      → block_with code l ≡ o → target_by code (ending_at code b) ≡ block_with code l
      → Agree m at code (Jump l) b [] s t → SameResult code (place_of at) (stands_before code o s calls replies)
      (stands_before code o t calls replies)
  target_alike b l None s t calls replies f e a = tt
  target_alike b l (Some q) s t calls replies f e a = stand_alike q s t calls calls replies refl a.memory a.symbols
      (λ v k. a.live v refl (live_from v b q (leads_to b q l e f) k))

  -- a call with its reply
  answered_alike : (b : ℕ) (f : Sym) (ws : List ℕ) (s t : State) (calls : List Call) (replies : List Reply)
      → goes_on (ending_at code b) ≡ true
      → Agree m at code (Called f ws) b [] s t → SameResult code (place_of at) (answered code b f ws s calls replies)
      (answered code b f ws t calls replies)
  answered_alike b f ws s t calls [] goes a = tt
  answered_alike b f ws s t calls (r ∷ rs) goes a =
      behind_alike b (nat_lt (suc b) (length code)) (replied r s) (replied r t)
      (calls ++ record { name = f; words = ws; memory = s.memory } ∷ [])
      (calls ++ record { name = f; words = ws; memory = t.memory } ∷ []) rs
      refl goes (ap (λ (g : ℕ → ℕ). calls ++ record { name = f; words = ws; memory = g } ∷ []) (fun_ext a.memory))
      (writes_same r.writes s.memory t.memory a.memory) a.symbols (λ v l. replied_holds r s t v (λ p. a.live v p l))

  -- behind a return only fp is live
  returned_holds : (b w : ℕ) (s t : State) → Agree m at code (Returned w) b [] s t → (v : Var) → v ≡ Reg Fp
      → Holds at s t v
  returned_holds b w s t a v e = a.live v refl (inl e)

  -- from the end of a block, by where control goes
  pub leave_alike : (b : ℕ) (s t : State) (c : Control) (calls : List Call) (replies : List Reply)
      → Comes code (ending_at code b) c → Agree m at code c b [] s t
      → SameResult code (place_of at) (leave code b s c calls replies) (leave code b t c calls replies)
  leave_alike b s t Next calls replies k a =
      behind_alike b (nat_lt (suc b) (length code)) s t calls calls replies refl k refl a.memory a.symbols
      (λ v l. a.live v refl l)
  leave_alike b s t (Jump l) calls replies k a = target_alike b l (block_with code l) s t calls replies refl k a
  leave_alike b s t (Called f ws) calls replies k a = answered_alike b f ws s t calls replies k a
  leave_alike b s t (Returned w) calls replies k a = record {
    stop = refl;
    calls = refl;
    replies = refl;
    memory = a.memory;
    symbols = a.symbols;
    places = λ r e. returned_holds b w s t a (Reg r) e;
    compared = λ e. returned_holds b w s t a Cc e;
  }

  pub leave_ended : (b : ℕ) (o p : Option Effected) (calls : List Call) (replies : List Reply)
      → Ended m at code b (ending_at code b) o p
      → SameResult code (place_of at) (leave_done code b o calls replies) (leave_done code b p calls replies)
  leave_ended b None None calls replies h = tt
  leave_ended b None (Some f) calls replies h = absurd h
  leave_ended b (Some d) None calls replies h = absurd h
  leave_ended b (Some d) (Some f) calls replies h =
      subst (λ c. SameResult code (place_of at) (leave code b d.state d.to calls replies)
      (leave code b f.state c calls replies)) h.0 (leave_alike b d.state f.state d.to calls replies h.1 h.2)
