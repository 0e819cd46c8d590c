-- What notes keep that are told a line in parts.
use Rattle.std.proofs.Common.{◌≡◌, ℕ, List, ◌++◌, Option, ap, sym, ◌∙◌, append_assoc}
use Rattle.po_text.specs.Causes.{after_known}
use Rattle.po_text.proofs.Known.{after_two}

pub told_two : (k0 k1 k2 : Option (List ℕ)) (x y : List ℕ) → k1 ≡ after_known k0 x → k2 ≡ after_known k1 y
    → k2 ≡ after_known k0 (x ++ y)
told_two k0 k1 k2 x y e f = f ∙ ap (λ k. after_known k y) e ∙ after_two k0 x y

pub told_three : (k0 k1 k2 k3 : Option (List ℕ)) (x c i d : List ℕ) → k1 ≡ after_known k0 x
    → k2 ≡ after_known k1 (c ++ i) → k3 ≡ after_known k2 d → k3 ≡ after_known k0 (x ++ c ++ i ++ d)
told_three k0 k1 k2 k3 x c i d e f g =
    g
    ∙ ap (λ k. after_known k d) (f ∙ ap (λ k. after_known k (c ++ i)) e ∙ after_two k0 x (c ++ i)
    ∙ ap (after_known k0) (sym (append_assoc x c i)))
    ∙ after_two k0 (x ++ c ++ i) d
