-- What the walk writes is the words of the pair's shape.
use Rattle.std.proofs.Common.{◌≡◌, ℕ, List, [], ◌∷◌, ◌++◌, refl, sym, ◌∙◌, ap, ap₂}
use Rattle.std.proofs.lemmas.List.{append_assoc}
use Rattle.po_term.specs.declared.term.Reg.{Reg as Register}
use Rattle.po_term.specs.declared.transfer.Transfer.{Transfer}
use Rattle.po_term.specs.Moves.{moves_of, instr_of}
use Rattle.po_model.specs.declared.hole.PReg.{PReg}
use Rattle.po_model.specs.declared.pair.Pair.{Pair}
use Rattle.po_model.specs.LiveSet.{is_live}
use Rattle.po_model.specs.Pairs.{PlainPair, is_live_after, pair_of}
use Rattle.po_model.specs.Holed.{PlainValues}
use Rattle.po_model.specs.Shape.{nothing_met, meet_moves, pair_values, pair_shape, live_holes, settable}
use Rattle.po_skel.specs.Numbered.{numbered_moves}
use Rattle.po_skel.proofs.Numbered.{first_shape, second_shape}
use Rattle.po_key.specs.ShapeWords.{bit_word, register_words, moves_words, registers_words, shape_words}

registers_both : (rs qs : List PReg) → registers_words (rs ++ qs) ≡ registers_words rs ++ registers_words qs
registers_both [] qs = refl
registers_both (r ∷ rs) qs =
    ap (λ ws. register_words r ++ ws) (registers_both rs qs)
    ∙ sym (append_assoc (register_words r) (registers_words rs) (registers_words qs))

-- those of these registers that are live after the pair, where v was met
abbrev pub live_words : PlainValues → PlainPair → List Register → List ℕ
live_words v p rs = registers_words (live_holes v (is_live_after p) rs)

-- five lists, each behind the one before
joined : (a b c d e : List ℕ) → (((a ++ b) ++ c) ++ d) ++ e ≡ a ++ (b ++ (c ++ (d ++ e)))
joined a b c d e =
    append_assoc ((a ++ b) ++ c) d e ∙ append_assoc (a ++ b) c (d ++ e) ∙ append_assoc a b (c ++ (d ++ e))

-- the parts, as the walk writes them
pub walked_words : (p : PlainPair) (v : PlainValues) → v ≡ pair_values p
    → (((((bit_word p.cc ∷ []) ++ moves_words (numbered_moves nothing_met p.a))
    ++ moves_words (numbered_moves (meet_moves nothing_met p.a) p.b)) ++ live_words v p v.regs)
    ++ live_words v p settable)
    ≡ shape_words (pair_shape p)
walked_words p v e =
    joined (bit_word p.cc ∷ []) (moves_words (numbered_moves nothing_met p.a))
    (moves_words (numbered_moves (meet_moves nothing_met p.a) p.b)) (live_words v p v.regs) (live_words v p settable)
    ∙ ap₂ (λ xs ys. bit_word p.cc ∷ (moves_words xs
    ++ (moves_words ys ++ (live_words v p v.regs ++ live_words v p settable))))
    (first_shape p) (second_shape p)
    ∙ ap (λ w. bit_word p.cc ∷ (moves_words (pair_shape p).a ++ (moves_words (pair_shape p).b
    ++ (live_words w p w.regs ++ live_words w p settable)))) e
    ∙ ap (λ ws. bit_word p.cc ∷ (moves_words (pair_shape p).a ++ (moves_words (pair_shape p).b ++ ws)))
    (sym (registers_both (live_holes (pair_values p) (is_live_after p) (pair_values p).regs)
    (live_holes (pair_values p) (is_live_after p) settable)))

-- the lists that the walk has, one after another
pub walk_words : (p : Pair) (u v w : PlainValues) (ts us : List Transfer) (rs : List Register)
    (none one two three four five : List ℕ) (bit : ℕ)
    → none ≡ [] → bit ≡ bit_word p.live.cc → one ≡ none ++ bit ∷ [] → u ≡ nothing_met → ts ≡ p.a.xs.items
    → us ≡ p.b.xs.items → v ≡ meet_moves u (moves_of ts) → w ≡ meet_moves v (moves_of us) → rs ≡ w.regs
    → two ≡ one ++ moves_words (numbered_moves u (moves_of ts))
    → three ≡ two ++ moves_words (numbered_moves v (moves_of us))
    → four ≡ three ++ registers_words (live_holes w (is_live p.live) rs)
    → five ≡ four ++ registers_words (live_holes w (is_live p.live) settable)
    → five ≡ shape_words (pair_shape (pair_of p))
walk_words p u v w ts us rs none one two three four five bit n b o start first second met all live d e f g =
    let between : v ≡ meet_moves nothing_met (instr_of p.a) =
    met ∙ ap₂ (λ x ys. meet_moves x (moves_of ys)) start first in
    let values : w ≡ pair_values (pair_of p) = all ∙ ap₂ (λ x ys. meet_moves x (moves_of ys)) between second in
    let one_is : one ≡ bit_word p.live.cc ∷ [] = o ∙ ap₂ (λ xs k. xs ++ k ∷ []) n b in
    let two_is = d
    ∙ ap₂ (λ xs ys. xs ++ ys) one_is (ap₂ (λ x ys. moves_words (numbered_moves x (moves_of ys))) start first) in
    let three_is = e
    ∙ ap₂ (λ xs ys. xs ++ ys) two_is (ap₂ (λ x ys. moves_words (numbered_moves x (moves_of ys))) between second) in
    let four_is = f
    ∙ ap₂ (λ xs ys. xs ++ ys) three_is (ap (λ qs. registers_words (live_holes w (is_live p.live) qs)) live) in
    g ∙ ap (λ xs. xs ++ registers_words (live_holes w (is_live p.live) settable)) four_is
    ∙ walked_words (pair_of p) w values
