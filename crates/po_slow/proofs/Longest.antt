-- A list that is longer than each entry of a machine stays two instructions, whether it is made or not.
use Rattle.std.proofs.Common.{◌≡◌, ℕ, ◌<◌, Bool, true, false, length, refl, sym, ap, arith}
use Rattle.std.specs.Prelude.{nat_lt, if◌then◌else◌}
use Rattle.std.proofs.lemmas.Bool.Decides.{nat_tests}
use Rattle.po_term.specs.declared.term.Reg.{Reg as Register}
use Rattle.po_term.specs.declared.term.Sym.{Sym}
use Rattle.po_term.specs.Terms.{Place}
use Rattle.po_term.specs.Kinds.{words}
use Rattle.po_model.specs.declared.machine.Machine.{Machine}
use Rattle.po_model.specs.Parts.{code_leaves}
use Rattle.po_model.specs.Joined.{Joint, NotJoined, NothingLeft, AsOne}
use Rattle.po_model.specs.Combined.{if_fit, recognised}
use Rattle.po_recog.specs.declared.index.Index.{Index}
use Rattle.po_recog.specs.Indexes.{IsIndexOf}
use Rattle.po_recog.proofs.Longest.{none_fits}
use Rattle.po_subst.specs.JoinedMoves.{at_most}

below : (m n : ℕ) → nat_lt m n ≡ true → m < n
below m n e = grind (arith, nat_tests)

pub cut_recognised : (m : Machine) (index : Index) (cc_live : Bool) (j : Joint ℕ Place Register Sym)
    → IsIndexOf m index
    → (recognised words code_leaves m cc_live (at_most index.most j)).got
    ≡ (recognised words code_leaves m cc_live j).got
cut_recognised m index cc_live NotJoined h = refl
cut_recognised m index cc_live NothingLeft h = refl
cut_recognised m index cc_live (AsOne ms) h = go (nat_lt index.most (length ms)) refl
  where
    go : (c : Bool) → nat_lt index.most (length ms) ≡ c
        → (recognised words code_leaves m cc_live (if c then NotJoined else AsOne ms)).got
        ≡ (recognised words code_leaves m cc_live (AsOne ms)).got
    go true e = sym (ap (λ found. if_fit ms found) (none_fits m index cc_live ms h (below index.most (length ms) e)))
    go false e = refl
