-- A text has one output in a mode.
use Rattle.std.proofs.Common.{◌≡◌, ℕ, suc, ◌+◌, ◌<◌, ◌≤◌, Bool, List, [], ◌∷◌, ◌++◌, length, refl, ap, sym, ◌∙◌, subst}
use Rattle.std.proofs.Common.{arith}
use Rattle.std.specs.Prelude.{codes}
use Rattle.std.proofs.Math.Path.{fun_ext}
use Rattle.po_ir.specs.declared.unit.Unit.{Unit as StackUnit}
use Rattle.po_model.specs.declared.machine.Machine.{Machine}
use Rattle.po_model.specs.Assembly.{label_line, line_of, lines_from, blocks_from, assembly, IsAssembly}
use Rattle.po_model.specs.Blocks.{PlainBlock, instrs_at}
use Rattle.po_model.specs.Fit.{fit}
use Rattle.po_model.specs.Placement.{registers}
use Rattle.po_model.specs.UnitCodes.{PlainUnit, flat}
use Rattle.po_slow.proofs.LivenessPasses.{same_test}
use Rattle.po_compile.specs.Output.{AreAssembled, IsOutputOf, TextsHaveOneOutput, naive_codes}
use Rattle.po_compile.proofs.Complete.{same_input}
use Rattle.po_compile.proofs.OneRules.{one_rules}
use Rattle.po_compile.proofs.OnlyOne.{one_list}
use Rattle.po_term.specs.Moves.{PlainInstr}

-- two functions that tell alike what is live give the same lines
module _ (m : Machine) (at : ℕ → ℕ) (u : PlainUnit) (f g : ℕ → ℕ → Bool) where
  lines_same : (b i : ℕ) (xs : List PlainInstr) → ((n : ℕ) → i ≤ n → n < i + length xs → f b n ≡ g b n)
      → lines_from m at u f b i xs ≡ lines_from m at u g b i xs
  lines_same b i [] h = refl
  lines_same b i (x ∷ xs) h =
      let here : f b i ≡ g b i = h i (omega arith) (omega arith) in
      let behind = lines_same b (suc i) xs (λ n a c. h n (omega arith) (omega arith)) in
      ap (λ (l : Bool). line_of m at u (fit m l x) ++ lines_from m at u f b (suc i) xs) here
      ∙ ap (λ (ls : List ℕ). line_of m at u (fit m (g b i) x) ++ ls) behind

  blocks_same : (b : ℕ) (bs : List PlainBlock) → ((c i : ℕ) → i < length (instrs_at bs c) → f (c + b) i ≡ g (c + b) i)
      → blocks_from m at u f b bs ≡ blocks_from m at u g b bs
  blocks_same b [] h = refl
  blocks_same b (x ∷ xs) h =
      let first : 0 + b ≡ b = omega arith in
      let here = lines_same b 0 x.instrs (λ n a l. subst (λ d. f d n ≡ g d n) first (h 0 n (omega arith))) in
      let behind = blocks_same (suc b) xs (λ c i l. let next : suc c + b ≡ c + suc b = omega arith in
      subst (λ d. f d i ≡ g d i) next (h (suc c) i l)) in
      ap (λ (ls : List ℕ). label_line u x.label ++ ls ++ blocks_from m at u f (suc b) xs) here
      ∙ ap (λ (ls : List ℕ). label_line u x.label ++ lines_from m at u g b 0 x.instrs ++ ls) behind

one_assembly : (m : Machine) (regs : List (ℕ × ℕ)) (u : PlainUnit) (text other : List ℕ) → IsAssembly m regs u text
    → IsAssembly m regs u other → text ≡ other
one_assembly m regs u text other x y =
    let places : x.at ≡ y.at = fun_ext (λ v. x.gives v ∙ sym (y.gives v)) in
    let blocks = blocks_same m y.at u x.live y.live 0 u.code
    (λ c i l. let at : c ≡ c + 0 = omega arith in subst (λ d. x.live d i ≡ y.live d i) at
    (same_test (x.live c i) (y.live c i) (x.tells c i l) (y.tells c i l))) in
    x.lines ∙ ap (λ (at : ℕ → ℕ). assembly m at u x.live) places
    ∙ ap (λ (ls : List ℕ). u.name ++ codes ":\n" ++ ls) blocks ∙ sym y.lines

one_text : (m : Machine) (us : List PlainUnit) (out other : List ℕ) → AreAssembled m us out → AreAssembled m us other
    → out ≡ other
one_text m [] out other x y = x ∙ sym y
one_text m (u ∷ us) out other (t, r, a, b, e) (s, q, c, d, f) =
    e ∙ ap (λ (z : List ℕ). z ++ r) (one_assembly m (registers (length m.regs) (flat u.code)) u t s a c)
    ∙ ap (λ (z : List ℕ). s ++ z) (one_text m us r q b d) ∙ sym f

pub one_output : TextsHaveOneOutput
one_output mode text out other (m, us, is, x) (n, ws, also, y) =
    let same = same_input text m n us ws is also in
    let there : IsOutputOf mode m us other = subst (λ (m : Machine). IsOutputOf mode m us other) (sym same.0)
    (subst (λ (us : List StackUnit). IsOutputOf mode n us other) (sym same.1) y) in
    let made = one_list mode m (naive_codes us) x.made there.made x.codes there.codes in
    let assembly : x.assembly ≡ there.assembly = one_text m there.made x.assembly there.assembly
    (subst (λ (vs : List PlainUnit). AreAssembled m vs x.assembly) made x.assembled) there.assembled in
    let rules : x.rules ≡ there.rules =
    one_rules mode m (naive_codes us) x.rules there.rules x.are_rules there.are_rules in
    x.text ∙ ap (λ (z : List ℕ). z ++ x.rules) assembly ∙ ap (λ (z : List ℕ). there.assembly ++ z) rules
    ∙ sym there.text
