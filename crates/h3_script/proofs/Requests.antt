-- The heads of requests.
use Rattle.std.proofs.Common.{◌≡◌, ℕ, List, [], Some, None, sym, ◌∙◌, ap, subst}
use Rattle.http_header.specs.Token.{IsToken}
use Rattle.http_header.specs.FieldValue.{FieldValue}
use Rattle.http_header.specs.HeaderMap.{Entries}
use Rattle.http_uri.specs.Uri.{Spells, uri_authority}
use Rattle.http_uri.specs.declared.uri.Uri.{Uri as Target}
use Rattle.http_uri.proofs.Theorems.{Spells_unique}
use Rattle.h3_header.specs.Head.{Head}
use Rattle.h3_header.specs.Request.{host_of, authority_refusal, request_head}
use Rattle.h3_header.specs.declared.headers.error.HeaderError.{HeaderError}
use Rattle.h3_script.specs.HeadText.{AddsFields, IsRequest}
use Rattle.h3_script.proofs.Fields.{fields_one}

-- a URI and fields that contradict each other, or have no authority, are no request's
pub no_request : (method uri : List ℕ) (words : List (List ℕ)) (target : Target) (m : Entries FieldValue) (e : HeaderError) → Spells uri target → AddsFields [] words m
    → authority_refusal (uri_authority target) (host_of m) ≡ Some e → ((head : Head) × IsRequest method uri words head) → ⊥
no_request method uri words target m e spells adds refused (head, r) =
    let same = Spells_unique uri r.target target r.spells spells in
    let fields = fields_one [] r.fields m words r.adds adds in
    let agrees : authority_refusal (uri_authority target) (host_of m) ≡ None =
    ap (λ a. authority_refusal a (host_of m)) (sym same.1) ∙ ap (λ f. authority_refusal (uri_authority r.target) (host_of f)) (sym fields) ∙ r.agrees in
    let no : Some e ≡ None = sym refused ∙ agrees in
    cc

pub is_request : (method uri held : List ℕ) (words : List (List ℕ)) (target : Target) (m : Entries FieldValue) (head : Head) → held ≡ method → IsToken held → Spells uri target
    → AddsFields [] words m → authority_refusal (uri_authority target) (host_of m) ≡ None → head ≡ request_head held target m None → IsRequest method uri words head
is_request method uri held words target m head same token spells adds agrees is =
    record {
      target = target;
      fields = m;
      is_method = subst IsToken same token;
      spells = spells;
      adds = adds;
      agrees = agrees;
      head_is = is ∙ ap (λ x. request_head x target m None) same;
    }
