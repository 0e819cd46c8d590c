-- What is so of the codes that a mode makes.
use Rattle.std.proofs.Common.{◌≡◌, ℕ, zero, suc, List, [], ◌∷◌, length, map, All, refl, ap, sym, ◌∙◌}
use Rattle.std.proofs.Common.{arith, inr}
use Rattle.std.proofs.lemmas.List.{length-map}
use Rattle.std.specs.List.{AllZip}
use Rattle.po_model.specs.declared.machine.Machine.{Machine}
use Rattle.po_model.specs.Blocks.{PlainBlock}
use Rattle.po_model.specs.Combined.{combination}
use Rattle.po_model.specs.Machines.{IsMachine}
use Rattle.po_model.specs.Scanned.{AreSafe}
use Rattle.po_model.specs.UnitCodes.{PlainUnit, IsUnitCode}
use Rattle.po_slow.specs.Passes.{IsSlowedUnit, KeepsForm}
use Rattle.po_slow.proofs.KeptForm.{form_kept}
use Rattle.po_slow.proofs.LivenessPasses.{keep_fit}
use Rattle.po_compile.specs.declared.mode.Mode.{Mode}
use Rattle.po_compile.specs.declared.mode.Mode.TheVariants.{Naive, Slow, Opt}
use Rattle.po_compile.specs.Modes.{IsCodeIn}
use Rattle.po_compile.specs.Output.{AllFit}
use Rattle.po_compile.proofs.Each.{all_cons}

zip_all : {A : Type 0} (R : A → A → Type 0) (P Q : A → Type 0) (us vs : List A) → ((u v : A) → R u v → P u → Q v)
    → AllZip R us vs → All P us → All Q vs
zip_all R P Q [] [] f z ps = λ k d h. absurd (omega arith)
zip_all R P Q [] (v ∷ vs) f z ps = absurd z
zip_all R P Q (u ∷ us) [] f z ps = absurd z
zip_all R P Q (u ∷ us) (v ∷ vs) f z ps = all_cons Q v vs (f u v z.0 (ps zero u (omega arith)))
    (zip_all R P Q us vs f z.1 (λ k d h. ps (suc k) d (omega arith)))

zip_zip : {A : Type 0} (R S : A → A → Type 0) (P : A → Type 0) (us vs : List A) → ((u v : A) → R u v → P u → S u v)
    → AllZip R us vs → All P us → AllZip S us vs
zip_zip R S P [] [] f z ps = tt
zip_zip R S P [] (v ∷ vs) f z ps = absurd z
zip_zip R S P (u ∷ us) [] f z ps = absurd z
zip_zip R S P (u ∷ us) (v ∷ vs) f z ps =
    (f u v z.0 (ps zero u (omega arith)), zip_zip R S P us vs f z.1 (λ k d h. ps (suc k) d (omega arith)))

pub zip_length : {A : Type 0} (R : A → A → Type 0) (us vs : List A) → AllZip R us vs → length vs ≡ length us
zip_length R [] [] z = refl
zip_length R [] (v ∷ vs) z = absurd z
zip_length R (u ∷ us) [] z = absurd z
zip_length R (u ∷ us) (v ∷ vs) z = ap suc (zip_length R us vs z.1)

zip_refl : {A : Type 0} (R : A → A → Type 0) (us : List A) → ((u : A) → R u u) → AllZip R us us
zip_refl R [] f = tt
zip_refl R (u ∷ us) f = (f u, zip_refl R us f)

-- slow combination is safe
pub combination_safe : (m : Machine) → AreSafe m (combination m)
combination_safe m p well = inr refl

same_blocks : (xs ys : List PlainBlock) → map (λ b. b.label) xs ≡ map (λ b. b.label) ys → length xs ≡ length ys
same_blocks xs ys e = sym (length-map xs (λ b. b.label)) ∙ ap length e ∙ length-map ys (λ b. b.label)

slowed_formed : (m : Machine) (u v : PlainUnit) (tries : ℕ) → IsMachine m → IsSlowedUnit m u v tries → IsUnitCode u
    → IsUnitCode v
slowed_formed m u v tries is s h =
    let before = h.placeable in
    let keeps : KeepsForm m u.code v.code = form_kept m (combination m) u.code v.code s.pairs is (combination_safe m)
    before.form s.slowed in
    let blocks : length v.code ≡ length u.code = same_blocks v.code u.code keeps.labels in
    let labels : v.labels ≡ u.labels = ap (λ (w : PlainUnit). w.labels) s.same in
    let syms : v.syms ≡ u.syms = ap (λ (w : PlainUnit). w.syms) s.same in
    record {
      placeable = record {
        form = keeps.formed;
        straight = keeps.straight before.straight;
        few_instrs = omega (arith, keeps.fewer, before.few_instrs);
        few_blocks = omega (arith, blocks, before.few_blocks);
      };
      named = rw (labels, syms) (keeps.named (length u.labels) (length u.syms) h.named);
    }

pub code_formed : (mode : Mode) (m : Machine) (u v : PlainUnit) → IsMachine m → IsCodeIn mode m u v → IsUnitCode u
    → IsUnitCode v
code_formed Naive m u v is same h = rw same h
code_formed Slow m u v is slowed h = slowed_formed m u v slowed.0 is slowed.1 h
code_formed Opt m u v is slowed h = slowed_formed m u v slowed.0 is slowed.1 h

pub made_formed : (mode : Mode) (m : Machine) (us vs : List PlainUnit) → IsMachine m → AllZip (IsCodeIn mode m) us vs
    → All IsUnitCode us → All IsUnitCode vs
made_formed mode m us vs is z formed =
    zip_all (IsCodeIn mode m) IsUnitCode IsUnitCode us vs (λ u v. code_formed mode m u v is) z formed

-- a code that is well formed and recognised
pub record IsGood (m : Machine) (u : PlainUnit) : Type 0 where
  pub formed : IsUnitCode u
  pub fits : AllFit m u

all_good : (m : Machine) (us : List PlainUnit) → All IsUnitCode us → All (AllFit m) us → All (IsGood m) us
all_good m us formed fits = λ k d h. record { formed = formed k d h; fits = fits k d h }

slowed_fits : (m : Machine) (u v : PlainUnit) (tries : ℕ) → IsMachine m → IsSlowedUnit m u v tries → IsGood m u
    → AllFit m v
slowed_fits m u v tries is slowed h = keep_fit m (combination m) u.code v.code slowed.pairs is (combination_safe m)
    h.formed.placeable.form slowed.slowed h.fits

code_fits : (mode : Mode) (m : Machine) (u v : PlainUnit) → IsMachine m → IsCodeIn mode m u v → IsGood m u → AllFit m v
code_fits Naive m u v is same h = rw same h.fits
code_fits Slow m u v is slowed h = slowed_fits m u v slowed.0 is slowed.1 h
code_fits Opt m u v is slowed h = slowed_fits m u v slowed.0 is slowed.1 h

pub made_fits : (mode : Mode) (m : Machine) (us vs : List PlainUnit) → IsMachine m → AllZip (IsCodeIn mode m) us vs
    → All IsUnitCode us → All (AllFit m) us → All (AllFit m) vs
made_fits mode m us vs is z formed fits = zip_all (IsCodeIn mode m) (IsGood m) (AllFit m) us vs
    (λ u v. code_fits mode m u v is) z (all_good m us formed fits)
