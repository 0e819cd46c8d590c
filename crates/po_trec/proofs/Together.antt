-- What two instructions come to, and what becomes of them.
use Rattle.std.proofs.Common.{◌≡◌, ◌∙◌, ℕ, Bool, false, List, ◌++◌, Result, Ok, Err, refl, ap, sym, subst}
use Rattle.std.specs.Prelude.{◌||◌, filter}
use Rattle.std.specs.List.{list_any}
use Rattle.po_word.specs.declared.memory.OutOfMemory.{OutOfMemory}
use Rattle.po_word.specs.Exprs.{Expr}
use Rattle.po_term.specs.Kinds.{Met, exprs}
use Rattle.po_term.specs.Simplified.{simple_moves}
use Rattle.po_model.specs.declared.hole.PReg.{PReg}
use Rattle.po_model.specs.declared.machine.Machine.{Machine}
use Rattle.po_model.specs.declared.rule.Pattern.{Pattern}
use Rattle.po_model.specs.Joined.{Joint, is_control, is_away, is_wanted, join_simple, joined}
use Rattle.po_model.specs.Combined.{recognised}
use Rattle.po_model.specs.Holed.{HolePlace, HoleMove, PlainShape, result_of}
use Rattle.po_model.specs.Generalised.{same_hole_register, hole_leaves, is_live_in, reading}
use Rattle.po_tsimp.specs.declared.path.Path.{Path as QuestionPath}
use Rattle.po_tsimp.specs.Made.{path_of, extended}
use Rattle.po_tsimp.proofs.Paths.{extended_append}
use Rattle.po_trec.specs.declared.joining.JoinedP.{JoinedP}
use Rattle.po_trec.specs.Read.{Answers}
use Rattle.po_trec.specs.Joint.{joint_of}

module _ (ws : List ℕ) (s : PlainShape) where
  abbrev first : Met Expr (List HoleMove)
  first = simple_moves (exprs ws) same_hole_register s.a

  abbrev wanted : List HoleMove
  wanted = filter (is_wanted (is_live_in s) s.cc) s.b

  abbrev joins : List HoleMove → List HoleMove → Met Expr (Joint Expr HolePlace PReg ℕ)
  joins a b = join_simple (exprs ws) hole_leaves (is_live_in s) s.cc a b

  abbrev both : Met Expr (Joint Expr HolePlace PReg ℕ)
  both = joined (exprs ws) hole_leaves (is_live_in s) s.cc s.a s.b

  pub joined_by : (control away : Bool) (a b : List HoleMove) (result : Result JoinedP OutOfMemory)
      (p q r : QuestionPath) → control ≡ list_any is_control s.a → control ≡ false
      → away ≡ list_any is_away s.b → away ≡ false → a ≡ first.got
      → path_of q ≡ extended ws (path_of p) first.asked → b ≡ wanted
      → Answers joint_of ws result q r (joins a b) → Answers joint_of ws result p r both
  joined_by control away a b (Ok j) p q r c no_control d not_away e f g h =
      let stays : list_any is_control s.a ≡ false = sym c ∙ no_control in
      let goes_on : list_any is_away s.b ≡ false = sym d ∙ not_away in
      let P : List HoleMove → List HoleMove → Type 0 = λ x y.
      (joint_of j ≡ (joins x y).got) × (path_of r ≡ extended ws (path_of q) (joins x y).asked) in
      let k : P first.got wanted = subst (λ x. P x wanted) e (subst (λ y. P a y) g h) in
      rw (stays, goes_on) (
        k.0,
        k.1 ∙ ap (λ kept. extended ws kept (joins first.got wanted).asked) f
            ∙ sym (extended_append ws first.asked (joins first.got wanted).asked (path_of p)),
      )
  joined_by control away a b (Err x) p q r c no_control d not_away e f g h = h

  -- what the two come to, and then what a machine makes of it
  pub combined_by : (m : Machine) (j : Joint Expr HolePlace PReg ℕ) (result : Result Pattern OutOfMemory)
      (p q r : QuestionPath) → j ≡ both.got → path_of q ≡ extended ws (path_of p) both.asked
      → Answers result_of ws result q r (recognised (exprs ws) hole_leaves m s.cc j)
      → Answers result_of ws result p r (reading m ws s)
  combined_by m j (Ok x) p q r e f g =
      let P : Joint Expr HolePlace PReg ℕ → Type 0 = λ i.
      (result_of x ≡ (recognised (exprs ws) hole_leaves m s.cc i).got)
      × (path_of r ≡ extended ws (path_of q) (recognised (exprs ws) hole_leaves m s.cc i).asked) in
      let k : P both.got = subst P e g in (
        k.0,
        k.1 ∙ ap (λ kept. extended ws kept (recognised (exprs ws) hole_leaves m s.cc both.got).asked) f
            ∙ sym
            (extended_append ws both.asked (recognised (exprs ws) hole_leaves m s.cc both.got).asked (path_of p)),
      )
  combined_by m j (Err x) p q r e f g = g
