-- Which list of fields a pull hands out.
use Rattle.std.proofs.Common.{◌≡◌, ℕ, true, false, if◌then◌else◌, List, [], ◌∷◌, refl, ap, sym, ◌∙◌, subst}
use Rattle.std.specs.Prelude.{◌≢◌, Option, Some, None, option_map}
use Rattle.h3_field.specs.Field.{Field}
use Rattle.h3_qpack.specs.DecoderState.{DecoderState}
use Rattle.h3_connection.specs.declared.arrival.Arrival.{Arrival}
use Rattle.h3_connection.specs.Control.{Found}
use Rattle.h3_connection.specs.Endpoint.{EndpointHistory, kind_of}
use Rattle.h3_connection.specs.Endpoint.Kind.{Request}
use Rattle.h3_connection.specs.Keeping.{read_all, unkept, settles}
use Rattle.h3_connection.specs.State.{EndpointState, RequestState, StandsFor, kept_at}
use Rattle.h3_connection.specs.StreamSets.{stream_at}
use Rattle.h3_incoming.specs.Answering.{Lists}
use Rattle.h3_requests.specs.Coming.{fields_at}
use Rattle.h3_connection.specs.Coming.{fields_there, fields_of_kind, fields_item, fields_behind}
use Rattle.h3_session.specs.Listing.{ListsItem, ListsNext}
use Rattle.h3_session.specs.Reading.{Finds}
use Rattle.h3_session.proofs.ReceivingReading.{finds_by}
use Rattle.h3_connection.specs.declared.setup.Announced.{Announced}

lists_no : (listed came : Option (List Field)) → listed ≡ None → Lists listed came
lists_no None came e = tt
lists_no (Some l) came e = absurd (cc)

pub lists_no_item : (s : EndpointState) (id : ℕ) (listed : Option (List Field)) → listed ≡ None → ListsItem s id listed
lists_no_item s id listed none = λ e h. lists_no listed (fields_item e id) none

pub lists_no_next : (s : EndpointState) (id : ℕ) (listed : Option (List Field)) → listed ≡ None → ListsNext s id listed
lists_no_next s id listed none = λ e h. lists_no listed (fields_behind e.kept e id) none

-- A request stream, by what is stored of it.
there_is : (own : Announced) (r : DecoderState) (at : Option RequestState) → fields_at own r at ≡ fields_there own r (option_map (λ (q : RequestState). q.incoming) at)
there_is own r None = refl
there_is own r (Some q) = refl

pub lists_request : (s : EndpointState) (id : ℕ) (listed : Option (List Field)) → kind_of s.side id ≡ Request → Lists listed (fields_at s.announced s.decoding.decoder (kept_at s.requests id)) → ListsItem s id listed
lists_request s id listed kind given = λ e h.
    let here : kind_of e.side id ≡ Request = ap (λ side. kind_of side id) (sym h.side) ∙ kind in
    let same : fields_at s.announced s.decoding.decoder (kept_at s.requests id) ≡ fields_item e id =
    there_is s.announced s.decoding.decoder (kept_at s.requests id) ∙ ap (fields_there s.announced s.decoding.decoder) (h.incoming id) ∙ ap (λ d. fields_there s.announced d.decoder (stream_at e.incoming id)) h.decoding
    ∙ ap (λ (a : Announced). fields_there a e.decoding.decoder (stream_at e.incoming id)) h.announced
    ∙ sym (ap (fields_of_kind e id) here) in
    subst (Lists listed) same given

-- With nothing kept,
pub lists_alone : (s : EndpointState) (id : ℕ) (listed : Option (List Field)) → s.kept ≡ [] → ListsItem s id listed → ListsNext s id listed
lists_alone s id listed none item = λ e h. subst (λ k. Lists listed (fields_behind k e id)) (sym (sym h.kept ∙ none)) (item e h)

-- where the answer is settled,
settled_item : (kept : List Arrival) (e : EndpointHistory) (id : ℕ) → settles e id ≡ true → fields_behind kept e id ≡ fields_item e id
settled_item [] e id is = refl
settled_item (k ∷ kept) e id is = ap (λ b. if b then fields_item e id else fields_item (read_all (k ∷ kept) (unkept e)).0 id) is

pub lists_settled : (s : EndpointState) (id : ℕ) (listed : Option (List Field)) → ((e : EndpointHistory) → StandsFor s e → true ≡ settles e id) → ListsItem s id listed → ListsNext s id listed
lists_settled s id listed is item = λ e h. subst (Lists listed) (sym (settled_item e.kept e id (sym (is e h)))) (item e h)

-- and once all that is kept was read.
behind_item : (kept : List Arrival) (e : EndpointHistory) (id : ℕ) → kept ≢ [] → settles e id ≡ false → fields_behind kept e id ≡ fields_item (read_all kept (unkept e)).0 id
behind_item [] e id some is = absurd (some refl)
behind_item (k ∷ kept) e id some is = ap (λ b. if b then fields_item e id else fields_item (read_all (k ∷ kept) (unkept e)).0 id) is

pub lists_behind : (s mid : EndpointState) (id : ℕ) (listed : Option (List Field)) → s.kept ≢ [] → ((e : EndpointHistory) → StandsFor s e → false ≡ settles e id)
    → ((e : EndpointHistory) → StandsFor s e → Finds None mid (read_all e.kept (unkept e))) → ListsItem mid id listed → ListsNext s id listed
lists_behind s mid id listed some is reads item = λ e h.
    let found : Found = read_all e.kept (unkept e) in
    subst (Lists listed) (sym (behind_item e.kept e id (λ k. some (h.kept ∙ k)) (sym (is e h)))) (item found.0 (finds_by mid None found (reads e h)))
