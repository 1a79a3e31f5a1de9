-- Bytes of a request stream that come in one delivery, or cut in two.
use Rattle.std.proofs.Common.{◌≡◌, ℕ, List, ◌++◌, refl, ap, sym, ◌∙◌, subst, Option, Some, None}
use Rattle.std.specs.Prelude.{◌||◌, unwrap_or}
use Rattle.h3_proto.specs.declared.stream.Side.{Side}
use Rattle.h3_proto.specs.declared.stream.Side.TheVariants.{Client, Server}
use Rattle.h3_connection.specs.declared.event.Refusal.{Refusal}
use Rattle.h3_connection.specs.declared.event.Refusal.TheVariants as refusal
use Rattle.h3_connection.specs.Delivering.{closed_refusal, request_refusal, refusal_at, opened_at, opened, incoming_at, with_incoming, kept, taken, bytes_at, deliver}
use Rattle.h3_connection.specs.DeliveryCuts.{SameAnswers, deliver_cut}
use Rattle.h3_connection.specs.Endpoint.{EndpointHistory, kind_of}
use Rattle.h3_connection.specs.Endpoint.Kind.{Request}
use Rattle.h3_connection.specs.Incoming.{Incoming, nothing_came}
use Rattle.h3_connection.specs.PullCuts.{HaveBytes, DifferInOneStream}
use Rattle.h3_connection.specs.StreamSets.{stream_at, set_stream}
use Rattle.h3_connection.specs.StreamSetLaws.{set-set}
use Rattle.h3_connection.proofs.PullCuts.{delivered_differ}
use Rattle.h3_connection.proofs.Seen.{at_same, OpensAt, opens_at}

pub some_refusal : (side : Side) (i : Incoming) → request_refusal side (Some i) ≡ closed_refusal (i.ended || i.was_reset)
some_refusal Client i = refl
some_refusal Server i = refl

-- a stream that takes a delivery takes another
still_open : (side : Side) (at : Option Incoming) → request_refusal side at ≡ None → closed_refusal ((unwrap_or at nothing_came).ended || (unwrap_or at nothing_came).was_reset) ≡ None
still_open side None h = refl
still_open side (Some i) h = sym (some_refusal side i) ∙ h

refused_both : (e : EndpointHistory) (id : ℕ) (a b : List ℕ) (why : Refusal) → ((x : List ℕ) → deliver e id x ≡ (Some why, e)) → SameAnswers (DifferInOneStream id) (deliver e id (a ++ b)) (deliver_cut e id a b)
refused_both e id a b why h =
    subst (λ p. SameAnswers (DifferInOneStream id) p (deliver_cut e id a b)) (sym (h (a ++ b)))
    (subst (λ p. SameAnswers (DifferInOneStream id) (Some why, e) p) (sym (ap (λ y. deliver y.1 id b) (h a) ∙ h b)) (record { answer = refl; left = λ none. absurd (cc) }))

pub request_cut : (e : EndpointHistory) (id : ℕ) (a b : List ℕ) → kind_of e.side id ≡ Request → HaveBytes (incoming_at e id).unread → SameAnswers (DifferInOneStream id) (deliver e id (a ++ b)) (deliver_cut e id a b)
request_cut e id a b kind have = by_taken e.closed (request_refusal e.side (stream_at e.incoming id)) refl refl
  where
    i : Incoming
    i = incoming_at e id

    open_now : EndpointHistory
    open_now = opened e id

    opens : OpensAt e open_now
    opens = opens_at e id (stream_at e.incoming id)

    after : Incoming → EndpointHistory
    after x = with_incoming open_now id x

    delivers : (closed : Option ℕ) (r : Option Refusal) → e.closed ≡ closed → request_refusal e.side (stream_at e.incoming id) ≡ r → (x : List ℕ) → deliver e id x ≡ taken closed r e (after (kept i x), None)
    delivers closed r c d x =
        ap (λ k. taken e.closed (refusal_at e id k) e (bytes_at e id x k)) kind
        ∙ ap (λ o. taken o (request_refusal e.side (stream_at e.incoming id)) e (after (kept i x), None)) c ∙ ap (λ o. taken closed o e (after (kept i x), None)) d

    second : (x : Incoming) (side : kind_of (after x).side id ≡ Request) → (after x).closed ≡ None → closed_refusal (x.ended || x.was_reset) ≡ None → deliver (after x) id b ≡ (None, with_incoming (after x) id (kept x b))
    second x side c d =
        let f = after x in
        let there : stream_at f.incoming id ≡ Some x = at_same open_now.incoming id x in
        ap (λ k. taken f.closed (refusal_at f id k) f (bytes_at f id b k)) side
        ∙ ap (λ o. taken f.closed (request_refusal f.side o) f (with_incoming (opened_at f id o) id (kept (unwrap_or o nothing_came) b), None)) there
        ∙ ap (λ o. taken o (request_refusal f.side (Some x)) f (with_incoming f id (kept x b), None)) c
        ∙ ap (λ o. taken None o f (with_incoming f id (kept x b), None)) (some_refusal f.side x ∙ d)

    by_taken : (closed : Option ℕ) (r : Option Refusal) → e.closed ≡ closed → request_refusal e.side (stream_at e.incoming id) ≡ r → SameAnswers (DifferInOneStream id) (deliver e id (a ++ b)) (deliver_cut e id a b)
    by_taken (Some code) r c d = refused_both e id a b (refusal.Connection code) (delivers (Some code) r c d)
    by_taken None (Some why) c d = refused_both e id a b why (delivers None (Some why) c d)
    by_taken None None c d =
        let x = kept i a in
        let y = kept x b in
        let all = kept i (a ++ b) in
        let two : deliver_cut e id a b ≡ (None, with_incoming (after x) id y) =
        ap (λ p. deliver p.1 id b) (delivers None None c d a) ∙ second x (ap (λ s. kind_of s id) opens.side ∙ kind) (opens.closed ∙ c) (still_open e.side (stream_at e.incoming id) d) in
        let same : after all ≡ with_incoming (with_incoming (after x) id y) id all =
        ap (λ s. record open_now { incoming = s }) (sym (set-set (set_stream open_now.incoming id x) id y all ∙ set-set open_now.incoming id x all)) in
        subst (λ p. SameAnswers (DifferInOneStream id) p (deliver_cut e id a b)) (sym (delivers None None c d (a ++ b)))
        (subst (λ p. SameAnswers (DifferInOneStream id) (None, after all) p) (sym two) (record {
          answer = refl;
          left = λ none. record {
            first = all;
            second = y;
            at_first = at_same open_now.incoming id all;
            at_second = at_same (after x).incoming id y;
            differ = delivered_differ i a b have;
            others = same;
          };
        }))
