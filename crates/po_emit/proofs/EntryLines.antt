-- The line that stands for an entry.
use Rattle.std.proofs.Common.{◌≡◌, ℕ, true, false, List, ◌++◌, Option, Some, None, length, get_or, map}
use Rattle.std.proofs.Common.{refl, ap, sym, ◌∙◌}
use Rattle.std.specs.Prelude.{slice_get, nat_lt, codes}
use Rattle.std.specs.Option.{option_map}
use Rattle.std.proofs.lemmas.Bool.{ltb-true, ltb-false}
use Rattle.std.proofs.lemmas.Option.{slice_get-map, slice_get-get_or, slice_get_past}
use Rattle.po_model.specs.declared.machine.Machine.{Machine}
use Rattle.po_model.specs.declared.machine.Entry.{Entry}
use Rattle.po_model.specs.UnitCodes.{PlainUnit}
use Rattle.po_recog.specs.declared.answer.Operand.{Operand}
use Rattle.po_emit.specs.declared.templates.Line.{Line}
use Rattle.po_emit.specs.Texts.{digit_text, filled_from, line_with}
use Rattle.po_emit.specs.Templates.{line_text, entry_text}

module _ (m : Machine) (ls : List Line) (at : ℕ → ℕ) (u : PlainUnit) (slots : List (Option Operand)) where
  abbrev AreLines : Type 0
  AreLines = (text : ℕ → List ℕ) → map (line_text text) ls ≡ map (entry_text text) m.entries

  same_place : AreLines → (n : ℕ)
      → option_map (line_text (digit_text m at u slots)) (slice_get ls n)
      ≡ option_map (entry_text (digit_text m at u slots)) (slice_get m.entries n)
  same_place are n =
      let text = digit_text m at u slots in
      sym (slice_get-map (line_text text) ls n) ∙ ap (λ (ts : List (List ℕ)). slice_get ts n) (are text)
      ∙ slice_get-map (entry_text text) m.entries n

  -- the line that stands at the number of an entry is that entry's
  pub line_there : AreLines → (n : ℕ) (l : Line) → true ≡ nat_lt n (length ls)
      → l ≡ get_or ls n l → line_text (digit_text m at u slots) l ≡ line_with m at u (n, slots)
  line_there are n l h e =
      let text = digit_text m at u slots in
      let there : slice_get ls n ≡ Some l =
      slice_get-get_or ls n l (ltb-true n (length ls) (sym h)) ∙ ap Some (sym e) in
      go (slice_get m.entries n) (sym (ap (option_map (line_text text)) there) ∙ same_place are n)
    where
      one : (x y : List ℕ) → Some x ≡ Some y → x ≡ y
      one x y same = cc

      go : (o : Option Entry)
          → Some (line_text (digit_text m at u slots) l) ≡ option_map (entry_text (digit_text m at u slots)) o
          → line_text (digit_text m at u slots) l ≡ codes "  " ++ filled_from m at u slots o ++ codes "\n"
      go None same = cc
      go (Some x) same = one _ _ same

  -- where no line stands there is no entry
  pub line_past : AreLines → (n : ℕ) → false ≡ nat_lt n (length ls)
      → codes "  \n" ≡ line_with m at u (n, slots)
  line_past are n h =
      let text = digit_text m at u slots in
      let none : slice_get ls n ≡ None =
      slice_get_past ls n (ltb-false n (length ls) (sym h)) in
      go (slice_get m.entries n) (sym (ap (option_map (line_text text)) none) ∙ same_place are n)
    where
      go : (o : Option Entry) → ◌≡◌ {A = Option (List ℕ)} None (option_map (entry_text (digit_text m at u slots)) o)
          → codes "  \n" ≡ codes "  " ++ filled_from m at u slots o ++ codes "\n"
      go None same = refl
      go (Some x) same = cc
