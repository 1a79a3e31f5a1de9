-- The head of a plain CONNECT request (RFC 9114, section 4.4), and why an authority and fields make none.
use Rattle.std.specs.Prelude.{ℕ, Bool, not, ◌||◌, ◌==◌, List, codes, slice_index, Option, Some, None, if◌then◌else◌}
use Rattle.std.specs.List.{list_any}
use Rattle.http_header.specs.FieldValue.{FieldValue}
use Rattle.http_header.specs.HeaderMap.{Entries}
use Rattle.http_uri.specs.ByteClasses.{at_sign, colon}
use Rattle.h3_header.specs.Head.{Head}
use Rattle.h3_header.specs.Request.{authority_refusal}
use Rattle.h3_header.specs.declared.headers.error.HeaderError.{HeaderError}
use Rattle.h3_header.specs.declared.headers.error.HeaderError.TheVariants.{InvalidRequest}

-- no userinfo, and a host that is not empty (RFC 9110, sections 7.2 and 9.3.6). It is the rule that `is_target_wrong` of
-- `h3_messages/Messages` has for `:authority`
abbrev pub is_plain_host : List ℕ → Bool
is_plain_host text = not (list_any (λ b. b == at_sign) text || (slice_index text 0 == colon))

-- why this authority and this `host` make no CONNECT, in the order of judging. An `Authority` is never empty
abbrev pub connect_refusal : List ℕ → Option (List ℕ) → Option HeaderError
connect_refusal authority host = if is_plain_host authority then authority_refusal (Some authority) host else Some InvalidRequest

-- `:method` is CONNECT, `:authority` is there, and `:scheme` and `:path` are not
abbrev pub connect_head : List ℕ → Entries FieldValue → Head
connect_head authority m =
    record {
      method = Some (codes "CONNECT");
      scheme = None;
      authority = Some authority;
      path = None;
      status = None;
      protocol = None;
      regular = m;
    }
