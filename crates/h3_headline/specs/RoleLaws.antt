-- Bytes come on an own stream of the other side: its first byte tells its role, and what follows is for that role.
use Rattle.std.proofs.Common.{◌+◌, ◌<◌, lit<, ◌∷◌, ◌++◌, refl, sym, ap, ◌∙◌, ◌≡◌, ℕ, List, false, arith, if◌then◌else◌, [], zero, suc, ◌-◌, take, drop, Option, Some, None, Bool, true}
use Rattle.h3_coding.specs.Varint.{varint_at}
use Rattle.h3_coding.specs.VarintLaws.{reads_shortest, none_at_end}
use Rattle.h3_connection.specs.Unidirectional.{StreamKinds, of_kind, Role, role_after, Unidirectional, untold, with_bytes, is_closed}
use Rattle.h3_connection.specs.Unidirectional.Role.{Control, Encoder, Decoder, Untold}
use Rattle.std.specs.Prelude.{◌==◌, unwrap_or}
use Rattle.std.proofs.lemmas.Grind.{common_steps}
use Rattle.h3_connection.specs.Delivering.{bytes_at, heard_as, read_unidirectional, with_unidirectional, closed_refusal, deliver, refusal_at, taken}
use Rattle.h3_connection.specs.Endpoint.{EndpointHistory, kind_of, is_second}
use Rattle.h3_connection.specs.Endpoint.Kind.{PeerUnidirectional}
use Rattle.h3_connection.specs.StreamSets.{stream_at}
use Rattle.h3_proto.specs.declared.stream.Side.{Side}
use Rattle.h3_proto.specs.declared.stream.Side.TheVariants.{Client, Server}
use Rattle.h3_connection.specs.OwnIds.{other, control_id, encoder_id, decoder_id}
use Rattle.h3_headline.specs.PeerStreams.{IsTyped, behind_type, role_by, roled, with_role}
use Rattle.h3_headline.specs.Standing.{IsPeerStream, came_on}
use Rattle.h3_headline.specs.WritesMoreLaws.{type_of_control, type_of_decoder, type_of_encoder}
use Rattle.h3_connection.specs.StrictConnection.{known_streams}

pub typed_control : IsTyped 0 Control
typed_control =
    record {
      first = λ sessions rest. ap (λ o. of_kind sessions (0 ∷ rest) o) (ap (λ l. varint_at (l ++ rest)) (sym type_of_control) ∙ reads_shortest 0 rest (lit< tt));
      stays = λ sessions bytes. refl;
      keeps = λ o bytes. refl;
    }

pub typed_encoder : IsTyped 2 Encoder
typed_encoder =
    record {
      first = λ sessions rest. ap (λ o. of_kind sessions (2 ∷ rest) o) (ap (λ l. varint_at (l ++ rest)) (sym type_of_encoder) ∙ reads_shortest 2 rest (lit< tt));
      stays = λ sessions bytes. refl;
      keeps = λ o bytes. refl;
    }

pub typed_decoder : IsTyped 3 Decoder
typed_decoder =
    record {
      first = λ sessions rest. ap (λ o. of_kind sessions (3 ∷ rest) o) (ap (λ l. varint_at (l ++ rest)) (sym type_of_decoder) ∙ reads_shortest 3 rest (lit< tt));
      stays = λ sessions bytes. refl;
      keeps = λ o bytes. refl;
    }

both_same : (r s : Role) (xs ys : List ℕ) → r ≡ s → xs ≡ ys → roled r xs ≡ roled s ys
both_same r s xs ys e f = ap (λ x. roled x xs) e ∙ ap (λ y. roled s y) f

not_none : (n : ℕ) → 0 < n → (n == 0) ≡ false
not_none n h = grind (arith, common_steps, h)

told : (role : Role) (n : ℕ) → 0 < n → role_by n role ≡ role
told role n h = ap (λ b. if b then Untold [] else role) (not_none n h)

pub role_then : (sessions : StreamKinds) (kind : ℕ) (role : Role) (came count : ℕ) (units : List ℕ) → IsTyped kind role
    → role_after sessions (role_by came role) (take count (drop came (kind ∷ units))) ≡ (role_by (came + count) role, behind_type came count units)
role_then sessions kind role zero zero units t = ap (λ o. of_kind sessions [] o) none_at_end
role_then sessions kind role zero (suc m) units t =
    let e : m ≡ 0 + suc m - 1 - (0 - 1) = omega arith in
    t.first sessions (take m units)
    ∙ both_same role (role_by (0 + suc m) role) (take m units) (behind_type 0 (suc m) units) (sym (told role (0 + suc m) (omega arith))) (ap (λ n. take n units) e)
role_then sessions kind role (suc c) count units t =
    let e : count ≡ suc c + count - 1 - (suc c - 1) = omega arith in
    let f : c ≡ suc c - 1 = omega arith in
    ap (λ r. role_after sessions r (take count (drop c units))) (told role (suc c) (omega arith))
    ∙ t.stays sessions (take count (drop c units))
    ∙ both_same role (role_by (suc c + count) role) (take count (drop c units)) (behind_type (suc c) count units) (sym (told role (suc c + count) (omega arith)))
    (ap (λ n. take n (drop c units)) e ∙ ap (λ n. take (suc c + count - 1 - (suc c - 1)) (drop n units)) f)

pub peer_stream : (came : ℕ) (role : Role) (stream : Option Unidirectional) → IsPeerStream came role stream → unwrap_or stream untold ≡ with_role (role_by came role)
peer_stream came role None h = sym (ap (λ n. with_role (role_by n role)) h)
peer_stream came role (Some o) h = h

pub with_role_then : (kind : ℕ) (role before : Role) (bytes : List ℕ) (b : Bool) → IsTyped kind role → with_bytes (with_role before) (if b then Untold [] else role, bytes) ≡ with_role (if b then Untold [] else role)
with_role_then kind role before bytes true t = refl
with_role_then kind role before bytes false t = t.keeps (with_role before) bytes

-- what its bytes do
pub heard_typed : (e : EndpointHistory) (id kind : ℕ) (role : Role) (came count : ℕ) (units : List ℕ) → IsTyped kind role → IsPeerStream came role (stream_at e.unidirectional id)
    → bytes_at e id (take count (drop came (kind ∷ units))) PeerUnidirectional
    ≡ heard_as (with_unidirectional e id (with_role (role_by (came + count) role))) id (role_by (came + count) role) (behind_type came count units)
heard_typed e id kind role came count units t h =
    let bytes = take count (drop came (kind ∷ units)) in
    let next = role_by (came + count) role in
    let rest = behind_type came count units in
    ap (λ o. read_unidirectional e id o (role_after (known_streams e.announced) o.role bytes)) (peer_stream came role (stream_at e.unidirectional id) h)
    ∙ ap (λ x. read_unidirectional e id (with_role (role_by came role)) x) (role_then (known_streams e.announced) kind role came count units t)
    ∙ ap (λ o. heard_as (with_unidirectional e id o) id next rest) (with_role_then kind role (role_by came role) rest (came + count == 0) t)

-- A delivery on it that finds no fault.
pub delivered_typed : (e new : EndpointHistory) (id came : ℕ) (role : Role) (bytes : List ℕ) → e.closed ≡ None → kind_of e.side id ≡ PeerUnidirectional → IsPeerStream came role (stream_at e.unidirectional id)
    → bytes_at e id bytes PeerUnidirectional ≡ (new, None) → deliver e id bytes ≡ (None, new)
delivered_typed e new id came role bytes alive kind h found =
    ap (λ c. taken c (refusal_at e id (kind_of e.side id)) e (bytes_at e id bytes (kind_of e.side id))) alive
    ∙ ap (λ k. taken None (refusal_at e id k) e (bytes_at e id bytes k)) kind
    ∙ ap (λ o. taken None (closed_refusal (is_closed o)) e (bytes_at e id bytes PeerUnidirectional)) (peer_stream came role (stream_at e.unidirectional id) h)
    ∙ ap (λ x. taken None None e x) found

-- the own streams of a side at the other one
pub kind_of_control : (side : Side) → kind_of side (control_id (other side)) ≡ PeerUnidirectional
kind_of_control Client = refl
kind_of_control Server = refl

pub kind_of_encoder : (side : Side) → kind_of side (encoder_id (other side)) ≡ PeerUnidirectional
kind_of_encoder Client = refl
kind_of_encoder Server = refl

pub kind_of_decoder : (side : Side) → kind_of side (decoder_id (other side)) ≡ PeerUnidirectional
kind_of_decoder Client = refl
kind_of_decoder Server = refl

-- it is read already, or none is
pub is_first : (came id : ℕ) → is_second (came_on came id) id ≡ false
is_first came id = by_test (came == 0)
  where
    by_test : (b : Bool) → is_second (if b then None else Some id) id ≡ false
    by_test true = refl
    by_test false = grind (arith, common_steps)
