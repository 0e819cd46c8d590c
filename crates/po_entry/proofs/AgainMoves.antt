-- The words of a transfer are read as themselves, and no other keyword stands there.
use Rattle.std.proofs.Common.{◌≡◌, ℕ, ◌+◌, Bool, true, false, List, [], ◌∷◌, ◌++◌, length}
use Rattle.std.proofs.Common.{take, drop, codes, refl, sym, ap, ◌∙◌, subst, zero, suc, Some}
use Rattle.std.specs.Prelude.{nat_eq}
use Rattle.std.specs.List.{list_all, prefix_len}
use Rattle.std.proofs.lemmas.Cmp.{nat_list_eq_equiv}
use Rattle.std.proofs.lemmas.Fmt.{decimal_digit}
use Rattle.std.proofs.Math.Seq.{take-append_seam, drop-append_seam}
use Rattle.po_word.specs.declared.operator.Rel.{Rel}
use Rattle.po_word.specs.declared.operator.Rel.TheVariants.{Eq, Ne, Lt, Le, Gt, Ge, Ltu, Geu}
use Rattle.po_text.specs.Words.{is_blank}
use Rattle.po_lines.specs.Leaves.{same}
use Rattle.po_term.specs.declared.term.Reg.TheVariants.{Virt, Fp, Rv, Arg}
use Rattle.po_termtext.specs.TermText.{rel_text}
use Rattle.po_model.specs.declared.machine.PatReg.{PatReg}
use Rattle.po_model.specs.declared.machine.PatReg.TheVariants.{Any, Fixed}
use Rattle.po_model.specs.declared.machine.PatTerm.{PatTerm}
use Rattle.po_model.specs.declared.machine.PatCond.TheVariants as cond
use Rattle.po_model.specs.declared.machine.PatTransfer.{PatTransfer}
use Rattle.po_model.specs.declared.machine.PatTransfer.TheVariants as transfer
use Rattle.po_model.specs.Patterns.{pattern_of, PatMove, SetsTo}
use Rattle.po_model.specs.Patterns.{Compares, Stores, Jumps, Branches, BranchesOn, Calls, Returns, pat_move_of}
use Rattle.po_model.specs.Entries.{IsPatReg}
use Rattle.po_model.specs.Entries.{reg_places}
use Rattle.po_pattern.specs.declared.operands.Operands.{Operands}
use Rattle.po_pattern.specs.Rests.{Rest, begins}
use Rattle.po_pattern.specs.Parts as parts
use Rattle.po_entry.specs.EntryText.{pat_reg_text}
use Rattle.po_entry.specs.Words.{is_word_byte, word_here, says, after_word, keyword}
use Rattle.po_entry.specs.Transfers as transfers
use Rattle.po_entry.proofs.Noted.{noted, Fits}
use Rattle.po_entry.proofs.Backs.{back, back_again}
use Rattle.po_entry.proofs.AgainParts.{at, Again, prefix_again, Stops}
use Rattle.po_entry.proofs.AgainParts.{any_again, fixed_again}

-- words

word_long : (w rest : List ℕ) → list_all is_word_byte w ≡ true → prefix_len is_word_byte (w ++ (32 ∷ rest)) ≡ length w
word_long w rest h = prefix_again is_word_byte w (32 ∷ rest) h refl

word_is : (w : List ℕ) (c : ℕ) (rest : List ℕ) → list_all is_word_byte w ≡ true → word_here (at c (w ++ (32 ∷ rest)))
    ≡ w
unfolding word_here
word_is w c rest h = let long = word_long w rest h in rw long (take-append_seam w (32 ∷ rest))

pub says_again : (w : List ℕ) (c : ℕ) (rest : List ℕ) → list_all is_word_byte w ≡ true
    → says w (at c (w ++ (32 ∷ rest))) ≡ true
says_again w c rest h = ap (λ (v : List ℕ). same v w) (word_is w c rest h) ∙ nat_list_eq_equiv.refl w

pub after_is : (w : List ℕ) (c : ℕ) (rest : List ℕ) → list_all is_word_byte w ≡ true
    → after_word (at c (w ++ (32 ∷ rest))) ≡ at (c + length w) (32 ∷ rest)
unfolding after_word
after_is w c rest h =
    let long = word_long w rest h in
    let left : drop (length w) (w ++ (32 ∷ rest)) ≡ 32 ∷ rest = drop-append_seam w (32 ∷ rest) in
    rw (long, left) refl

-- a word that begins with another byte
other_front : (b d : ℕ) (bs ds : List ℕ) (n : ℕ) → nat_eq b d ≡ false → same (take n (b ∷ bs)) (d ∷ ds) ≡ false
other_front b d bs ds zero e = refl
other_front b d bs ds (suc n) e = rw e refl

pub says_other : (b d c : ℕ) (bs ds : List ℕ) → nat_eq b d ≡ false → says (d ∷ ds) (at c (b ∷ bs)) ≡ false
unfolding word_here
says_other b d c bs ds e = other_front b d bs ds (prefix_len is_word_byte (b ∷ bs)) e

-- what stands behind a blank and begins no range
pub record Follows (rest : List ℕ) : Type 0 where
  pub solid : prefix_len is_blank rest ≡ 0
  pub plain : begins 91 rest ≡ false

-- whole registers

pub reg_behind : (r : PatReg) (c : ℕ) (rest : List ℕ) (seen : Operands) → IsPatReg r → Fits seen (reg_places r)
    → Stops rest → Again (parts.register (at c (pat_reg_text r ++ rest)) seen) r rest (noted seen (reg_places r))
unfolding parts.register
reg_behind (Any k) c rest seen h fits stops =
    let text : pat_reg_text (Any k) ++ rest ≡ 37 ∷ (48 + k) ∷ rest = ap (λ (w : List ℕ). codes "%" ++ w ++ rest)
    (decimal_digit k h) in
    subst (λ (w : List ℕ). Again (parts.register (at c w) seen) (Any k) rest (noted seen (reg_places (Any k))))
    (sym text) (any_again k c rest seen h fits.0)
reg_behind (Fixed (Virt n)) c rest seen h fits stops = absurd h
reg_behind (Fixed Fp) c rest seen h fits stops = fixed_again Fp c rest seen h stops.name
reg_behind (Fixed Rv) c rest seen h fits stops = fixed_again Rv c rest seen h stops.name
reg_behind (Fixed (Arg n)) c rest seen h fits stops = fixed_again (Arg n) c rest seen h stops.name

-- relations

pub record IsRelWord (r : Rel) (w : List ℕ) : Type 0 where
  pub word : list_all is_word_byte w ≡ true
  pub is : transfers.relation_of w ≡ Some r
  pub solid : (tail : List ℕ) → prefix_len is_blank (w ++ tail) ≡ 0
  pub plain : (tail : List ℕ) → begins 91 (w ++ tail) ≡ false

pub rel_word : (r : Rel) → IsRelWord r (rel_text r)
rel_word Eq = record { word = refl; is = refl; solid = λ tail. refl; plain = λ tail. refl }
rel_word Ne = record { word = refl; is = refl; solid = λ tail. refl; plain = λ tail. refl }
rel_word Lt = record { word = refl; is = refl; solid = λ tail. refl; plain = λ tail. refl }
rel_word Le = record { word = refl; is = refl; solid = λ tail. refl; plain = λ tail. refl }
rel_word Gt = record { word = refl; is = refl; solid = λ tail. refl; plain = λ tail. refl }
rel_word Ge = record { word = refl; is = refl; solid = λ tail. refl; plain = λ tail. refl }
rel_word Ltu = record { word = refl; is = refl; solid = λ tail. refl; plain = λ tail. refl }
rel_word Geu = record { word = refl; is = refl; solid = λ tail. refl; plain = λ tail. refl }

-- no keyword stands here
pub record NoKeyword (r : Rest) : Type 0 where
  pub goto_no : says (codes "goto") r ≡ false
  pub call_no : says (codes "call") r ≡ false
  pub ret_no : says (codes "ret") r ≡ false
  pub if_no : says (codes "if") r ≡ false

pub other_than_keywords : (b c : ℕ) (bs : List ℕ) → nat_eq b 103 ≡ false → nat_eq b 99 ≡ false → nat_eq b 114 ≡ false
    → nat_eq b 105 ≡ false → NoKeyword (at c (b ∷ bs))
other_than_keywords b c bs g k r i = record {
  goto_no = says_other b 103 c bs _ g;
  call_no = says_other b 99 c bs _ k;
  ret_no = says_other b 114 c bs _ r;
  if_no = says_other b 105 c bs _ i;
}

-- a register that is to be set stands here
pub record BeginsSet (r : Rest) : Type 0 where
  pub none : NoKeyword r
  pub cc_no : says (codes "cc") r ≡ false
  pub memory_no : transfers.begins_memory r ≡ false

pub named_other : (b : ℕ) (bs : List ℕ) (n : ℕ) → nat_eq b 77 ≡ false → same (take n (b ∷ bs)) (codes "M") ≡ false
named_other b bs n e = other_front b 77 bs [] n e

pub setting : (r : Rest) (seen : Operands) → NoKeyword r → transfers.transfer_in r seen ≡ transfers.setting_in r seen
unfolding transfers.transfer_in
setting r seen h =
    let goto_no = h.goto_no in
    let call_no = h.call_no in
    let ret_no = h.ret_no in
    let if_no = h.if_no in
    rw (goto_no, call_no, ret_no, if_no) refl

pub register_set : (r : Rest) (seen : Operands) → BeginsSet r → transfers.transfer_in r seen ≡ transfers.set_in r seen
unfolding transfers.setting_in
register_set r seen h =
    let cc_no = h.cc_no in
    let memory_no = h.memory_no in
    setting r seen h.none ∙ rw (cc_no, memory_no) refl

pub word_says : (w text : List ℕ) (c : ℕ) (rest : List ℕ) (b : Bool) → list_all is_word_byte w ≡ true → same w text
    ≡ b → says text (at c (w ++ (32 ∷ rest))) ≡ b
word_says w text c rest b h e = ap (λ (v : List ℕ). same v text) (word_is w c rest h) ∙ e

-- whole transfers

abbrev pub back_move : PatMove → PatTransfer
back_move (SetsTo r t) = transfer.Set r (back t)
back_move (Compares t u) = transfer.Cc (back t) (back u)
back_move (Stores t u) = transfer.Store (back t) (back u)
back_move (Jumps k) = transfer.Goto k
back_move (Branches r k) = transfer.If cond.Cc r k
back_move (BranchesOn t u r k) = transfer.If (cond.Two (back t) (back u)) r k
back_move (Calls k) = transfer.Call k
back_move Returns = transfer.Ret

pub back_move_again : (m : PatTransfer) → back_move (pat_move_of m) ≡ m
back_move_again (transfer.Set r t) = ap (transfer.Set r) (back_again t)
back_move_again (transfer.Cc t u) = ap (λ (x : PatTerm). transfer.Cc x (back (pattern_of u))) (back_again t)
    ∙ ap (λ (x : PatTerm). transfer.Cc t x) (back_again u)
back_move_again (transfer.Store t u) = ap (λ (x : PatTerm). transfer.Store x (back (pattern_of u))) (back_again t)
    ∙ ap (λ (x : PatTerm). transfer.Store t x) (back_again u)
back_move_again (transfer.Goto k) = refl
back_move_again (transfer.If cond.Cc r k) = refl
back_move_again (transfer.If (cond.Two t u) r k) = ap (λ (x : PatTerm). transfer.If (cond.Two x (back (pattern_of u)))
    r k) (back_again t) ∙ ap (λ (x : PatTerm). transfer.If (cond.Two t x) r k) (back_again u)
back_move_again (transfer.Call k) = refl
back_move_again transfer.Ret = refl
