-- What is so of a request that the words ask for.
use Rattle.std.proofs.Common.{List, map, subst}
use Rattle.std.specs.Prelude.{string_bytes}
use Rattle.std.specs.declared.string.String.{String}
use Rattle.std.specs.declared.alloc.Global.{Global}
use Rattle.po_words.specs.declared.request.Request.{Request}
use Rattle.po_words.proofs.Requests.{one_request}
use Rattle.po_run.specs.Asked.{Asks, ForAsked}

module _ (Served : Request → Type 0) (words : List (String Global)) (P : Request → Type 0) where
  -- it is so of each that they ask for, since they ask for one
  pub as_asked : (r : Request) → Asks words r → P r → ForAsked Served words P
  as_asked r asked p = λ other also served. subst P (one_request (map string_bytes words) r other asked also) p

  -- the same, where it is so because the request is served
  pub as_served : (r : Request) → Asks words r → (Served r → P r) → ForAsked Served words P
  as_served r asked p = λ other also served.
      subst (λ (x : Request). Served x → P x) (one_request (map string_bytes words) r other asked also) p served

  -- it is so of each where they ask for nothing
  pub as_nothing : ((r : Request) → Asks words r → ⊥) → ForAsked Served words P
  as_nothing none = λ r asked served. absurd (none r asked)
