-- What is no string's encoding has no value.
use Rattle.std.proofs.Common.{◌≡◌, ℕ, List, Option, Some, None, refl, ap, sym, ◌∙◌}
use Rattle.h3_huffman.specs.Payload.{IsNoPayload}
use Rattle.h3_huffman.specs.Unhuffman.{unhuffman}
use Rattle.h3_huffman.specs.UnhuffmanLaws.{unhuffman_some, unhuffman_is}

none_left : (o : Option (List ℕ)) → ((bytes : List ℕ) → o ≡ Some bytes → ⊥) → o ≡ None
none_left None h = refl
none_left (Some bytes) h = absurd (h bytes refl)

-- what is no string's encoding has no value
pub unhuffman_none : (payload : List ℕ) → IsNoPayload payload → unhuffman payload ≡ None
unhuffman_none payload h = none_left (unhuffman payload) (λ plain e. let is = unhuffman_is payload plain e in h plain is.0 is.1)

pub no_unhuffman : (payload : List ℕ) → unhuffman payload ≡ None → IsNoPayload payload
no_unhuffman payload none plain each e =
    let some = unhuffman_some plain each in
    let both : Some plain ≡ None = sym some ∙ ap (λ l. unhuffman l) (sym e) ∙ none in
    absurd (cc)
