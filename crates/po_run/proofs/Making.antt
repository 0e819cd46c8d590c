-- What is made of the naive codes of a text.
use Rattle.std.proofs.Common.{◌≡◌, ℕ, zero, suc, List, [], ◌∷◌, All, length, arith, sym, ◌∙◌}
use Rattle.std.proofs.lemmas.List.{length-map}
use Rattle.std.proofs.lemmas.List.Elements.{All-nil, All-cons}
use Rattle.std.specs.List.{AllZip}
use Rattle.po_model.specs.declared.code.UnitCode.{UnitCode}
use Rattle.po_model.specs.declared.machine.Machine.{Machine}
use Rattle.po_model.specs.Blocks.{code_of}
use Rattle.po_model.specs.UnitCodes.{unit_of, IsUnitCode, IsFormedCode}
use Rattle.po_compile.specs.declared.mode.Mode.TheVariants.{Opt}
use Rattle.po_compile.specs.Modes.{IsCodeIn}
use Rattle.po_compile.specs.Steps.{units_of}
use Rattle.po_compile.proofs.Slowed.{zip_length}

abbrev pub IsFormedUnit : UnitCode → Type 0
IsFormedUnit u = IsFormedCode (code_of u.code)

pub formed_codes : (codes : List UnitCode) → All IsUnitCode (units_of codes) → All IsFormedUnit codes
formed_codes [] all = All-nil IsFormedUnit
formed_codes (u ∷ us) all = All-cons IsFormedUnit u us (all zero (unit_of u) (omega arith)).placeable.form
    (formed_codes us (λ k d h. all (suc k) d (omega arith)))

-- each unit has one code
pub made_count : (m : Machine) (codes made : List UnitCode) → AllZip (IsCodeIn Opt m) (units_of codes) (units_of made)
    → length made ≡ length codes
made_count m codes made z = sym (length-map made unit_of)
    ∙ zip_length (IsCodeIn Opt m) (units_of codes) (units_of made) z ∙ length-map codes unit_of
