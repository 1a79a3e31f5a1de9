-- The two names are taken.
use Rattle.std.specs.Prelude.{◌≡◌, ℕ, true, false, List, Option, Some, None, IfSome, refl}
use Rattle.std.proofs.Common.{inl, inr, subst, sym}
use Rattle.h3_header.specs.HeadTests.{takes_protocol}
use Rattle.h3_header.specs.ProtocolText.{IsProtocolText}

pub named_taken : (protocol : Option (List ℕ)) → IfSome protocol IsProtocolText → takes_protocol false protocol ≡ true
named_taken None named = refl
named_taken (Some text) (inl web) = subst (λ t. takes_protocol false (Some t) ≡ true) (sym web) refl
named_taken (Some text) (inr udp) = subst (λ t. takes_protocol false (Some t) ≡ true) (sym udp) refl
