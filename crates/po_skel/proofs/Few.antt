-- A well-formed pair has few registers, symbols and constants.
use Rattle.std.proofs.Common.{◌≡◌, ℕ, ◌+◌, ◌*◌, ◌≤◌, Bool, true, false, List, [], ◌∷◌, ◌++◌, length, All, refl, arith}
use Rattle.std.specs.Prelude.{if◌then◌else◌}
use Rattle.std.specs.List.{list_any}
use Rattle.std.proofs.lemmas.List.{length-append}
use Rattle.std.proofs.lemmas.List.Elements.{All-head, All-tail}
use Rattle.po_term.specs.declared.term.Reg.{Reg as Register}
use Rattle.po_term.specs.declared.term.Reg.TheVariants.{Virt, Fp, Rv, Arg}
use Rattle.po_term.specs.declared.term.Sym.{Sym}
use Rattle.po_term.specs.Tree.{Tree, Const, Leaf, Read, Unary, Binary, tree_size}
use Rattle.po_term.specs.Terms.{Place, InReg, AtSym}
use Rattle.po_term.specs.Moves.{GoTo, IfCc, IfTwo, CallOf, Return, SetTo, CcTo, StoreTo, Ends, PlainMove}
use Rattle.po_term.specs.Form.{WellFormedMove, WellFormed}
use Rattle.po_term.specs.Simplified.{reg_eq}
use Rattle.po_model.specs.Pairs.{PlainPair}
use Rattle.po_model.specs.Holed.{PlainValues}
use Rattle.po_model.specs.Shape.{meet_register, meet_symbol, meet_tree, meet_move, meet_moves}
use Rattle.po_model.specs.Shape.{nothing_met, pair_values, constants, move_constants, moves_constants}
use Rattle.po_skel.specs.Few.{HasFew}
use Rattle.po_model.specs.Parts.{sym_eq}
use Rattle.po_skel.proofs.Meeting.{moves_consts}

-- w has at most n registers and n symbols more than v
record Within (v w : PlainValues) (n : ℕ) : Type 0 where
  pub registers : length w.regs ≤ length v.regs + n
  pub symbols : length w.syms ≤ length v.syms + n

register_within : (v : PlainValues) (r : Register) → Within v (meet_register v r) 1
register_within v (Virt n) = go (list_any (reg_eq (Virt n)) v.regs)
  where
    go : (b : Bool) → Within v (if b then v else record v { regs = v.regs ++ Virt n ∷ [] }) 1
    go true = record { registers = omega arith; symbols = omega arith }
    go false = let e = length-append v.regs (Virt n ∷ []) in record { registers = omega arith; symbols = omega arith }
register_within v Fp = record { registers = omega arith; symbols = omega arith }
register_within v Rv = record { registers = omega arith; symbols = omega arith }
register_within v (Arg n) = record { registers = omega arith; symbols = omega arith }

symbol_within : (v : PlainValues) (s : Sym) → Within v (meet_symbol v s) 1
symbol_within v s = go (list_any (sym_eq s) v.syms)
  where
    go : (b : Bool) → Within v (if b then v else record v { syms = v.syms ++ s ∷ [] }) 1
    go true = record { registers = omega arith; symbols = omega arith }
    go false = let e = length-append v.syms (s ∷ []) in record { registers = omega arith; symbols = omega arith }

-- one step and then another, at most n in all
both : (u v w : PlainValues) (k m n : ℕ) → Within u v k → Within v w m → k + m ≤ n → Within u w n
both u v w k m n a b h =
    let ar = a.registers in
    let br = b.registers in
    let a_symbols = a.symbols in
    let b_symbols = b.symbols in
    record { registers = omega arith; symbols = omega arith }

tree_within : (v : PlainValues) (t : Tree ℕ Place) → Within v (meet_tree v t) (tree_size t)
tree_within v (Const c) = record { registers = omega arith; symbols = omega arith }
tree_within v (Leaf (InReg r)) = register_within v r
tree_within v (Leaf (AtSym s)) = symbol_within v s
tree_within v (Read t) =
    both v (meet_tree v t) (meet_tree v t) (tree_size t) 0 (1 + tree_size t) (tree_within v t)
    (record { registers = omega arith; symbols = omega arith }) (omega arith)
tree_within v (Unary o t) =
    both v (meet_tree v t) (meet_tree v t) (tree_size t) 0 (1 + tree_size t) (tree_within v t)
    (record { registers = omega arith; symbols = omega arith }) (omega arith)
tree_within v (Binary o t u) =
    both v (meet_tree v t) (meet_tree (meet_tree v t) u) (tree_size t) (tree_size u) (1 + tree_size t + tree_size u)
    (tree_within v t) (tree_within (meet_tree v t) u) (omega arith)

two_within : (v : PlainValues) (t u : Tree ℕ Place) → tree_size t ≤ 64 → tree_size u ≤ 64
    → Within v (meet_tree (meet_tree v t) u) 128
two_within v t u h k =
    both v (meet_tree v t) (meet_tree (meet_tree v t) u) (tree_size t) (tree_size u) 128 (tree_within v t)
    (tree_within (meet_tree v t) u) (omega arith)

none_more : (v w : PlainValues) (n : ℕ) → length w.regs ≡ length v.regs → length w.syms ≡ length v.syms → Within v w n
none_more v w n e f = record { registers = omega arith; symbols = omega arith }

move_within : (v : PlainValues) (m : PlainMove) → WellFormedMove m → Within v (meet_move v m) 128
move_within v (SetTo r t) h = let size =
    h.2.size in both v (meet_register v r) (meet_tree (meet_register v r) t) 1 (tree_size t) 128 (register_within v r)
    (tree_within (meet_register v r) t) (omega arith)
move_within v (CcTo t u) h = two_within v t u h.0.size h.1.size
move_within v (StoreTo t u) h = two_within v t u h.0.size h.1.size
move_within v (Ends (GoTo l)) h = none_more v _ 128 refl refl
move_within v (Ends (IfCc r l)) h = none_more v _ 128 refl refl
move_within v (Ends (IfTwo t u r l)) h = let w =
    two_within v t u h.0.size h.1.size in record { registers = w.registers; symbols = w.symbols }
move_within v (Ends (CallOf s n)) h =
    both v (meet_symbol v s) (meet_symbol v s) 1 0 128 (symbol_within v s) (none_more _ _ 0 refl refl) (omega arith)
move_within v (Ends Return) h = none_more v _ 128 refl refl

moves_within : (v : PlainValues) (ms : List PlainMove) → All WellFormedMove ms
    → Within v (meet_moves v ms) (128 * length ms)
moves_within v [] h = none_more v v 0 refl refl
moves_within v (m ∷ ms) h =
    both v (meet_move v m) (meet_moves (meet_move v m) ms) 128 (128 * length ms) (128 * length (m ∷ ms))
    (move_within v m (All-head WellFormedMove m ms h))
    (moves_within (meet_move v m) ms (All-tail WellFormedMove m ms h)) (omega arith)

constants_few : (t : Tree ℕ Place) → constants t ≤ tree_size t
constants_few (Const c) = omega arith
constants_few (Leaf l) = omega arith
constants_few (Read t) = let h = constants_few t in omega arith
constants_few (Unary o t) = let h = constants_few t in omega arith
constants_few (Binary o t u) = let h = constants_few t in let k = constants_few u in omega arith

two_few : (t u : Tree ℕ Place) → tree_size t ≤ 64 → tree_size u ≤ 64 → constants t + constants u ≤ 128
two_few t u h k = let a = constants_few t in let b = constants_few u in omega arith

move_few : (m : PlainMove) → WellFormedMove m → move_constants m ≤ 128
move_few (SetTo r t) h = let size = h.2.size in let a = constants_few t in omega arith
move_few (CcTo t u) h = two_few t u h.0.size h.1.size
move_few (StoreTo t u) h = two_few t u h.0.size h.1.size
move_few (Ends (GoTo l)) h = omega arith
move_few (Ends (IfCc r l)) h = omega arith
move_few (Ends (IfTwo t u r l)) h = two_few t u h.0.size h.1.size
move_few (Ends (CallOf s n)) h = omega arith
move_few (Ends Return) h = omega arith

moves_few : (ms : List PlainMove) → All WellFormedMove ms → moves_constants ms ≤ 128 * length ms
moves_few [] h = omega arith
moves_few (m ∷ ms) h = let a = move_few m (All-head WellFormedMove m ms h) in let b =
    moves_few ms (All-tail WellFormedMove m ms h) in omega arith

pub pair_few_constants : (p : PlainPair) → WellFormed p.a → WellFormed p.b
    → moves_constants p.a + moves_constants p.b ≤ 65535
pair_few_constants p f s =
    let a = moves_few p.a f.each in
    let b = moves_few p.b s.each in
    let few_a = f.few in
    let few_b = s.few in
    omega arith

pub pair_few : (p : PlainPair) → WellFormed p.a → WellFormed p.b → HasFew (pair_values p)
pair_few p f s =
    let a = moves_within nothing_met p.a f.each in
    let b = moves_within (meet_moves nothing_met p.a) p.b s.each in
    let few_a = f.few in
    let few_b = s.few in
    let ar = a.registers in
    let br = b.registers in
    let a_symbols = a.symbols in
    let b_symbols = b.symbols in
    let a_constants = moves_consts nothing_met p.a in
    let b_constants = moves_consts (meet_moves nothing_met p.a) p.b in
    let few_constants = pair_few_constants p f s in
    record { registers = omega arith; symbols = omega arith; constants = omega arith }
