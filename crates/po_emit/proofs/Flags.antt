-- Whether cc is live at a place, where there is something there.
use Rattle.std.proofs.Common.{◌≡◌, ℕ, zero, suc, ◌<◌, ◌≤◌, Bool, true, false, List, [], ◌∷◌, length, get_or, refl}
use Rattle.std.proofs.Common.{arith, sym, ap}
use Rattle.std.specs.Prelude.{nat_lt}
use Rattle.std.proofs.lemmas.Bool.{ltb-true, ltb-false}
use Rattle.std.specs.Global.{Vec}
use Rattle.po_live.specs.Flags.{flag_at, flags_at}

flag_within : (fs : List Bool) (i : ℕ) (f : Bool) → i < length fs → f ≡ get_or fs i f → f ≡ flag_at fs i
flag_within [] i f h e = absurd (omega arith)
flag_within (x ∷ xs) zero f h e = e
flag_within (x ∷ xs) (suc i) f h e = flag_within xs i f (omega arith) e

flag_behind : (fs : List Bool) (i : ℕ) → length fs ≤ i → false ≡ flag_at fs i
flag_behind [] i h = refl
flag_behind (x ∷ xs) zero h = absurd (omega arith)
flag_behind (x ∷ xs) (suc i) h = flag_behind xs i (omega arith)

pub flag_there : (fs : List Bool) (i : ℕ) (f : Bool) → true ≡ nat_lt i (length fs) → f ≡ get_or fs i f
    → f ≡ flag_at fs i
flag_there fs i f h e = flag_within fs i f (ltb-true i (length fs) (sym h)) e

pub flag_past : (fs : List Bool) (i : ℕ) → false ≡ nat_lt i (length fs) → false ≡ flag_at fs i
flag_past fs i h = flag_behind fs i (ltb-false i (length fs) (sym h))

flags_within : (vs : List (Vec Bool)) (b : ℕ) (v : Vec Bool) → b < length vs → v ≡ get_or vs b v
    → v.items ≡ flags_at vs b
flags_within [] b v h e = absurd (omega arith)
flags_within (x ∷ xs) zero v h e = ap (λ (w : Vec Bool). w.items) e
flags_within (x ∷ xs) (suc b) v h e = flags_within xs b v (omega arith) e

flags_behind : (vs : List (Vec Bool)) (b : ℕ) → length vs ≤ b → [] ≡ flags_at vs b
flags_behind [] b h = refl
flags_behind (x ∷ xs) zero h = absurd (omega arith)
flags_behind (x ∷ xs) (suc b) h = flags_behind xs b (omega arith)

pub flags_there : (vs : List (Vec Bool)) (b : ℕ) (v : Vec Bool) → true ≡ nat_lt b (length vs) → v ≡ get_or vs b v
    → v.items ≡ flags_at vs b
flags_there vs b v h e = flags_within vs b v (ltb-true b (length vs) (sym h)) e

pub flags_past : (vs : List (Vec Bool)) (b : ℕ) → false ≡ nat_lt b (length vs) → [] ≡ flags_at vs b
flags_past vs b h = flags_behind vs b (ltb-false b (length vs) (sym h))
