-- The text of a unit, part by part.
use Rattle.std.proofs.Common.{◌≡◌, ℕ, List, [], ◌∷◌, ◌++◌, refl, ap, sym, ◌∙◌, map, append_assoc}
use Rattle.std.specs.Prelude.{codes}
use Rattle.std.specs.List.{flat_map}
use Rattle.po_ir.specs.declared.unit.Op.{Op}
use Rattle.po_ir.specs.Printing.{op_words, line_text, unit_text}

lines_end : (os : List Op)
    → flat_map line_text (map op_words os ++ (codes "end" ∷ []) ∷ [])
    ≡ flat_map (λ o. line_text (op_words o)) os ++ codes "end\n"
lines_end [] = refl
lines_end (o ∷ os) =
    ap (λ (r : List ℕ). line_text (op_words o) ++ r) (lines_end os)
    ∙ sym (append_assoc (line_text (op_words o)) (flat_map (λ o. line_text (op_words o)) os) (codes "end\n"))

-- what is printed, one part behind the other
pub parts_printed : (name : List ℕ) (os : List Op) (a b c d e : List ℕ) → a ≡ [] → b ≡ a ++ codes "unit " ++ name
    → c ≡ b ++ codes "\n" → d ≡ c ++ flat_map (λ o. line_text (op_words o)) os → e ≡ d ++ codes "end\n"
    → e ≡ unit_text (record { name = name; ops = os })
parts_printed name os a b c d e first second third fourth fifth =
    let whole : ((([] ++ codes "unit " ++ name) ++ codes "\n") ++ flat_map (λ o. line_text (op_words o)) os)
    ++ codes "end\n" ≡ unit_text (record { name = name; ops = os }) =
    append_assoc ((codes "unit " ++ name) ++ codes "\n") (flat_map (λ o. line_text (op_words o)) os) (codes "end\n")
    ∙ ap (λ (r : List ℕ). ((codes "unit " ++ name) ++ codes "\n") ++ r) (sym (lines_end os)) in
    fifth
    ∙ ap (λ (x : List ℕ). x ++ codes "end\n")
    (fourth
    ∙ ap (λ (x : List ℕ). x ++ flat_map (λ o. line_text (op_words o)) os)
    (third
    ∙ ap (λ (x : List ℕ). x ++ codes "\n") (second ∙ ap (λ (x : List ℕ). x ++ codes "unit " ++ name) first)))
    ∙ whole
