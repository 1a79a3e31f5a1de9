-- A pull of any stream: it judges a message, or is answered as without strict messages.
use Rattle.std.proofs.Common.{arith, ◌≡◌, ◌≤◌, ℕ, Bool, true, false, if◌then◌else◌, List, [], ◌∷◌, refl, ap, sym, ◌∙◌, subst, Option, Some, None}
use Rattle.std.proofs.lemmas.Bool.{le-ltb, or_right}
use Rattle.std.specs.Prelude.{◌==◌, ◌&&◌, ◌||◌, is_some, nat_lt, option_map}
use Rattle.h3_proto.specs.Config.{is_limit}
use Rattle.h3_connection.specs.Codes.{frame_unexpected}
use Rattle.h3_connection.specs.declared.arrival.Arrival.{Arrival}
use Rattle.h3_connection.specs.Control.{Found}
use Rattle.h3_connection.specs.Delivering.{with_incoming}
use Rattle.h3_connection.specs.Endpoint.{EndpointHistory, limit_of, Kind, kind_of, replied, heads_waiting}
use Rattle.h3_connection.specs.Endpoint.Kind.{Request, ServerOpened, OwnUnidirectional, PeerUnidirectional}
use Rattle.h3_connection.specs.Incoming.{Incoming}
use Rattle.h3_connection.specs.Keeping.{is_settled_request, pulled_after, pulls, pulls_behind, read_all, settles, settles_at, unkept}
use Rattle.h3_connection.specs.Pulling.{Pulled, just, next_item, pull_stream}
use Rattle.h3_connection.specs.Sending.{after_answer, if_too_many, within_limit, pulled, pull_request, pulled_unidirectional, pull_peer, pull_at, pull_unless}
use Rattle.h3_connection.specs.StreamSets.{Streams, stream_at, set_stream}
use Rattle.h3_connection.specs.Unidirectional.{Unidirectional, pull_unidirectional}
use Rattle.h3_connection.specs.declared.event.Fault.TheVariants as fault
use Rattle.h3_connection.specs.declared.event.Item.TheVariants as item
use Rattle.h3_connection.specs.declared.event.Pull.{Pull}
use Rattle.h3_connection.specs.declared.event.Pull.TheVariants as answer
use Rattle.h3_connection.specs.declared.event.StreamFault.{StreamFault}
use Rattle.h3_connection.specs.Coming.{fields_behind, fields_in, fields_item, fields_of_kind, fields_there, next_section}
use Rattle.h3_connection.specs.Coming.{HasNoHeader}
use Rattle.h3_headline.specs.ListEventLaws.{any_list}
use Rattle.h3_strict.specs.PlainEnds.{FewWait, FewWaitBehind, FewWaitIn}
use Rattle.h3_connection.specs.StrictConnection.{is_strict}
use Rattle.h3_strict.specs.Plainly.{exceeds, is_excess, is_judged, judged_as, judged_at, judged_open, plain, plain_incoming, plainly, tells_malformed}
use Rattle.h3_strict.proofs.PlainCalls.{plain_result}
use Rattle.h3_strict.proofs.PlainPulls.{PullsPlainly, Judged, Same, plain_pulled, pull_plain}
use Rattle.h3_strict.proofs.PlainReading.{IsTooLong, ReadsAlike, ReadsPlainly, all_plain, plain_found}
use Rattle.h3_strict.proofs.PlainStreams.{at_each, set_each, count_each, count_set, waits_at}
use Rattle.h3_strict.proofs.StrictCodes.{any_told}
use Rattle.h3_connection.specs.declared.setup.Announced.{Announced}
use Rattle.h3_connection.specs.Lists.{listed_pull}

-- It judges, and tells so where no more streams wait than may.
pub data PulledPlainly (strict : Bool) (few : Type 0) (judged : Bool) (x y : Pull × EndpointHistory) : Type 0 where
  IsJudged : judged ≡ true → (few → tells_malformed strict x.0 ≡ true) → PulledPlainly strict few judged x y
  IsAlike : y ≡ plain_result x → PulledPlainly strict few judged x y

-- where more is known
where_more : (strict : Bool) (few more : Type 0) (judged : Bool) (x y : Pull × EndpointHistory) → (more → few) → PulledPlainly strict few judged x y → PulledPlainly strict more judged x y
where_more strict few more judged x y gives (IsJudged is told) = IsJudged is (λ known. told (gives known))
where_more strict few more judged x y gives (IsAlike same) = IsAlike same

after_plain : (a : Pull) (e : EndpointHistory) → after_answer a (plainly e) ≡ plain_result (after_answer a e)
after_plain (answer.Fault (fault.Connection code)) e = refl
after_plain (answer.Fault (fault.Stream f)) e = refl
after_plain (answer.Fault fault.Memory) e = refl
after_plain (answer.Item i) e = refl
after_plain answer.Pending e = refl
after_plain (answer.Waiting n) e = refl
after_plain answer.NoMessages e = refl

fault_told : (strict : Bool) (a : Pull) (e : EndpointHistory) → tells_malformed strict a ≡ true → tells_malformed strict (after_answer a e).0 ≡ true
fault_told strict (answer.Fault (fault.Connection code)) e is = is
fault_told strict (answer.Fault (fault.Stream f)) e is = is
fault_told strict (answer.Fault fault.Memory) e is = absurd (cc)
fault_told strict (answer.Item i) e is = absurd (cc)
fault_told strict answer.Pending e is = absurd (cc)
fault_told strict (answer.Waiting n) e is = absurd (cc)
fault_told strict answer.NoMessages e is = absurd (cc)

module _ (e : EndpointHistory) (id : ℕ) where
  given_told : (strict b : Bool) (p : Pulled) → b ≡ false → tells_malformed strict p.answer ≡ true → tells_malformed strict (pulled e id (if_too_many b p)).0 ≡ true
  given_told strict true p none is = absurd (cc)
  given_told strict false p none is = fault_told strict p.answer (replied (with_incoming e id p.incoming) p.replies) is

  abbrev too_many : Pulled → Bool
  too_many p = nat_lt e.announced.limits.blocked (heads_waiting e.decoding.decoder (set_stream e.incoming id p.incoming))

  -- a stream that waits for no more than before is none too many
  none_too_many : (i : Incoming) (p : Pulled) → stream_at e.incoming id ≡ Some i → p.incoming.waits_for ≤ i.waits_for → FewWait e → too_many p ≡ false
  none_too_many i p here waits few =
      let less : p.incoming.waits_for ≤ waits_at (stream_at e.incoming id) = rw here waits in
      le-ltb e.announced.limits.blocked (heads_waiting e.decoding.decoder (set_stream e.incoming id p.incoming))
      (omega (arith, count_set e.decoding.decoder.table.inserted e.incoming id p.incoming less, few))

  pub given_plain : (p : Pulled) → pulled (plainly e) id (plain_pulled p) ≡ plain_result (pulled e id p)
  given_plain p =
      ap (λ (s : Streams Incoming). after_answer p.answer (record (plainly (replied (with_incoming e id p.incoming) p.replies)) { incoming = s })) (set_each plain_incoming e.incoming id p.incoming)
      ∙ after_plain p.answer (replied (with_incoming e id p.incoming) p.replies)

  too_many_plain : (b : Bool) (p : Pulled) → if_too_many b (plain_pulled p) ≡ plain_pulled (if_too_many b p)
  too_many_plain true p = refl
  too_many_plain false p = refl

  pub limit_plain : (p : Pulled) → within_limit (plainly e) id (plain_pulled p) ≡ plain_pulled (within_limit e id p)
  limit_plain p =
      let most = e.decoding.decoder.table.inserted in
      ap (λ n. if_too_many (nat_lt e.announced.limits.blocked n) (plain_pulled p))
      (ap (heads_waiting e.decoding.decoder) (set_each plain_incoming e.incoming id p.incoming) ∙ count_each most (set_stream e.incoming id p.incoming))
      ∙ too_many_plain (nat_lt e.announced.limits.blocked (heads_waiting e.decoding.decoder (set_stream e.incoming id p.incoming))) p

  request_plain : (strict : Bool) (o : Option Incoming) → stream_at e.incoming id ≡ o → PulledPlainly strict (FewWait e) (judged_at e id o) (pull_request e id o) (pull_request (plainly e) id (option_map plain_incoming o))
  request_plain strict None here = IsAlike refl
  request_plain strict (Some i) here = of (pull_plain e.side e.announced id e.decoding.decoder i)
    where
      p : Pulled
      p = pull_stream e.side e.announced id e.decoding.decoder i

      q : Pulled
      q = pull_stream e.side (plain e.announced) id e.decoding.decoder (plain_incoming i)

      of : PullsPlainly i.waits_for p q → PulledPlainly strict (FewWait e) (tells_malformed false p.answer) (pulled e id (within_limit e id p)) (pulled (plainly e) id (within_limit (plainly e) id q))
      of (Judged told waits) = IsJudged told (λ few. given_told strict (too_many p) p (none_too_many i p here waits few) (any_told strict p.answer told))
      of (Same is) = IsAlike (ap (λ x. pulled (plainly e) id (within_limit (plainly e) id x)) is ∙ ap (pulled (plainly e) id) (limit_plain p) ∙ given_plain (within_limit e id p))

  told_plain : (x : Pull × Unidirectional) → pulled_unidirectional (plainly e) id x ≡ plain_result (pulled_unidirectional e id x)
  told_plain (a, o) = refl

  pub peer_plain : (o : Option Unidirectional) → pull_peer (plainly e) id o ≡ plain_result (pull_peer e id o)
  peer_plain None = refl
  peer_plain (Some o) = told_plain (pull_unidirectional o o.role)

  kind_plain : (strict : Bool) (k : Kind) → PulledPlainly strict (FewWait e) (judged_as e id k) (pull_at e id k) (pull_at (plainly e) id k)
  kind_plain strict Request =
      subst (λ o. PulledPlainly strict (FewWait e) (judged_as e id Request) (pull_at e id Request) (pull_request (plainly e) id o)) (sym (at_each plain_incoming e.incoming id)) (request_plain strict (stream_at e.incoming id) refl)
  kind_plain strict ServerOpened = IsAlike refl
  kind_plain strict OwnUnidirectional = IsAlike refl
  kind_plain strict PeerUnidirectional = IsAlike (peer_plain (stream_at e.unidirectional id))

  -- what is settled is answered alike, whatever it tells
  settled_pull : (i : Incoming) → (is_some i.fault || i.is_over) ≡ true
      → pull_stream e.side (plain e.announced) id e.decoding.decoder (plain_incoming i) ≡ plain_pulled (pull_stream e.side e.announced id e.decoding.decoder i)
  unfolding pull_stream
  settled_pull i = by_fault i.fault
    where
      by_end : (over : Bool) → over ≡ true
          → (if over then just (answer.Item item.End) (plain_incoming i) else next_item e.side (plain e.announced) id e.decoding.decoder (plain_incoming i) i.place)
          ≡ plain_pulled (if over then just (answer.Item item.End) i else next_item e.side e.announced id e.decoding.decoder i i.place)
      by_end true is = refl
      by_end false is = absurd (cc)

      by_fault : (f : Option StreamFault) → (is_some f || i.is_over) ≡ true
          → (elim f [ Some why ↦ just (answer.Fault (fault.Stream why)) (plain_incoming i) | None ↦ if i.is_over then just (answer.Item item.End) (plain_incoming i) else next_item e.side (plain e.announced) id e.decoding.decoder (plain_incoming i) i.place ])
          ≡ plain_pulled (elim f [ Some why ↦ just (answer.Fault (fault.Stream why)) i | None ↦ if i.is_over then just (answer.Item item.End) i else next_item e.side e.announced id e.decoding.decoder i i.place ])
      by_fault (Some why) is = refl
      by_fault None is = by_end i.is_over is

  settled_request : (o : Option Incoming) → is_settled_request o ≡ true → pull_request (plainly e) id (option_map plain_incoming o) ≡ plain_result (pull_request e id o)
  settled_request None is = absurd (cc)
  settled_request (Some i) is =
      let p = pull_stream e.side e.announced id e.decoding.decoder i in
      ap (λ x. pulled (plainly e) id (within_limit (plainly e) id x)) (settled_pull i is) ∙ ap (pulled (plainly e) id) (limit_plain p) ∙ given_plain (within_limit e id p)

  pub settled_kind : (k : Kind) → settles_at e id k ≡ true → pull_at (plainly e) id k ≡ plain_result (pull_at e id k)
  settled_kind Request is = ap (pull_request (plainly e) id) (at_each plain_incoming e.incoming id) ∙ settled_request (stream_at e.incoming id) is
  settled_kind ServerOpened is = refl
  settled_kind OwnUnidirectional is = refl
  settled_kind PeerUnidirectional is = peer_plain (stream_at e.unidirectional id)

  pub settles_alike : (k : Kind) → settles_at (plainly e) id k ≡ settles_at e id k
  settles_alike Request = ap is_settled_request (at_each plain_incoming e.incoming id) ∙ of (stream_at e.incoming id)
    where
      of : (o : Option Incoming) → is_settled_request (option_map plain_incoming o) ≡ is_settled_request o
      of None = refl
      of (Some i) = refl
  settles_alike ServerOpened = refl
  settles_alike OwnUnidirectional = refl
  settles_alike PeerUnidirectional = refl

-- behind what was read
found_plain : (strict : Bool) (id : ℕ) (x : Found) → PulledPlainly strict (FewWaitIn x) (judged_as x.0 id (kind_of x.0.side id)) (pulled_after x id) (pulled_after (plain_found x) id)
found_plain strict id (f, Some code) = IsAlike refl
found_plain strict id (f, None) = where_more strict (FewWait f) _ _ _ _ (λ few. few f refl) (kind_plain f id strict (kind_of f.side id))

open_plain : (strict : Bool) (few : Type 0) (closed : Option ℕ) (long : Bool) (e f : EndpointHistory) (id : ℕ) (x y : Pull × EndpointHistory) → PulledPlainly strict few (long || judged_as f id (kind_of f.side id)) x y
    → PulledPlainly strict few (long || judged_open closed f id) (pull_unless closed e x) (pull_unless closed (plainly e) y)
open_plain strict few (Some code) long e f id x y h = IsAlike refl
open_plain strict few None long e f id x y h = h

-- what is kept may be too long, too
or_judged : (strict : Bool) (few : Type 0) (long b : Bool) (x y : Pull × EndpointHistory) → PulledPlainly strict few b x y → PulledPlainly strict few (long || b) x y
or_judged strict few true b x y (IsJudged judged told) = IsJudged refl told
or_judged strict few false b x y (IsJudged judged told) = IsJudged judged told
or_judged strict few long b x y (IsAlike same) = IsAlike same

long_told : (id : ℕ) (strict : Bool) (x : Found) → is_excess strict x.1 ≡ true → tells_malformed strict (pulled_after x id).0 ≡ true
long_told id strict (f, None) is = absurd (cc)
long_told id strict (f, Some code) is = or_right (code == frame_unexpected) (is_excess strict (Some code)) is

is_long : (e : EndpointHistory) (fault : Option ℕ) (b : Bool) → is_excess (is_strict e.announced) fault ≡ true → is_limit (limit_of e) ≡ true → (exceeds e fault || b) ≡ true
is_long e fault b is limit = ap (λ long. (long && is_limit (limit_of e)) || b) is ∙ ap (λ on. on || b) limit

kept_plain : (kept : List Arrival) (e : EndpointHistory) (id : ℕ)
    → PulledPlainly (is_strict e.announced) (FewWaitIn (read_all kept (unkept e))) (exceeds e (read_all kept (unkept e)).1 || judged_open e.closed (read_all kept (unkept e)).0 id) (pulls_behind kept e id) (pulls_behind kept (plainly e) id)
kept_plain [] e id =
    let strict = is_strict e.announced in
    open_plain strict (FewWaitIn (unkept e, None)) e.closed false e (unkept e) id _ _ (where_more strict (FewWait e) (FewWaitIn (unkept e, None)) _ _ _ (λ few. few (unkept e) refl) (kind_plain e id strict (kind_of e.side id)))
kept_plain (k ∷ kept) e id = open_plain strict few e.closed (exceeds e (read_all (k ∷ kept) (unkept e)).1) e (read_all (k ∷ kept) (unkept e)).0 id _ _ (subst If (sym (settles_alike e id kind)) (by_test (settles e id) refl))
  where
    strict : Bool
    strict = is_strict e.announced

    kind : Kind
    kind = kind_of e.side id

    x : Found
    x = read_all (k ∷ kept) (unkept e)

    few : Type 0
    few = FewWaitIn (read_all (k ∷ kept) (unkept e))

    judged : Bool
    judged = exceeds e x.1 || judged_as x.0 id (kind_of x.0.side id)

    y : Found
    y = read_all (k ∷ kept) (unkept (plainly e))

    If : Bool → Type 0
    If b = PulledPlainly strict few judged (if settles e id then pull_at e id kind else pulled_after x id) (if b then pull_at (plainly e) id kind else pulled_after y id)

    by_reading : ReadsPlainly e.announced x y → PulledPlainly strict few judged (pulled_after x id) (pulled_after y id)
    by_reading (IsTooLong limit long) = IsJudged (is_long e x.1 (judged_as x.0 id (kind_of x.0.side id)) long limit) (λ known. long_told id strict x long)
    by_reading (ReadsAlike same) =
        subst (λ z. PulledPlainly strict few judged (pulled_after x id) (pulled_after z id)) (sym same)
        (or_judged strict few (exceeds e x.1) (judged_as x.0 id (kind_of x.0.side id)) (pulled_after x id) (pulled_after (plain_found x) id) (found_plain strict id x))

    by_test : (b : Bool) → settles e id ≡ b → PulledPlainly strict few judged (if b then pull_at e id kind else pulled_after x id) (if b then pull_at (plainly e) id kind else pulled_after y id)
    by_test true is = IsAlike (settled_kind e id kind is)
    by_test false is = by_reading (all_plain (k ∷ kept) (unkept e))

-- what comes next on a stream
pub pulls_plainly : (e : EndpointHistory) (id : ℕ) → PulledPlainly (is_strict e.announced) (FewWaitBehind e) (is_judged e id) (pulls e id) (pulls (plainly e) id)
pulls_plainly e id = kept_plain e.kept e id

-- The list that comes next is the same, where the answer has a header.
section_plain : (own : Announced) (i : Incoming) (o : Option (List ℕ)) → next_section own (plain_incoming i) o ≡ next_section own i o
section_plain own i None = refl
section_plain own i (Some bytes) = refl

pub items_plain : (e : EndpointHistory) (id : ℕ) → fields_item (plainly e) id ≡ fields_item e id
items_plain e id = by_kind (kind_of e.side id)
  where
    at_stream : (o : Option Incoming) → fields_there e.announced e.decoding.decoder (option_map plain_incoming o) ≡ fields_there e.announced e.decoding.decoder o
    at_stream None = refl
    at_stream (Some i) = ap (fields_in e.decoding.decoder) (section_plain e.announced i i.section)

    by_kind : (k : Kind) → fields_of_kind (plainly e) id k ≡ fields_of_kind e id k
    by_kind Request = ap (fields_there e.announced e.decoding.decoder) (at_each plain_incoming e.incoming id) ∙ at_stream (stream_at e.incoming id)
    by_kind ServerOpened = refl
    by_kind OwnUnidirectional = refl
    by_kind PeerUnidirectional = refl

unless_none : (closed : Option ℕ) (e : EndpointHistory) (later : Pull × EndpointHistory) → HasNoHeader later.0 → HasNoHeader (pull_unless closed e later).0
unless_none (Some code) e later none = tt
unless_none None e later none = none

long_none : (id : ℕ) (strict : Bool) (x : Found) → is_excess strict x.1 ≡ true → HasNoHeader (pulled_after x id).0
long_none id strict (f, None) is = absurd (cc)
long_none id strict (f, Some code) is = tt

pub lists_plain : (kept : List Arrival) (e : EndpointHistory) (id : ℕ) → listed_pull (fields_behind kept (plainly e) id) (pulls_behind kept e id).0 ≡ listed_pull (fields_behind kept e id) (pulls_behind kept e id).0
lists_plain [] e id = ap (λ o. listed_pull o (pulls_behind [] e id).0) (items_plain e id)
lists_plain (k ∷ kept) e id =
    ap (λ b. listed_pull (if b then fields_item (plainly e) id else fields_item y.0 id) (pulls_behind (k ∷ kept) e id).0) (settles_alike e id kind) ∙ by_test (settles e id)
  where
    kind : Kind
    kind = kind_of e.side id

    x : Found
    x = read_all (k ∷ kept) (unkept e)

    y : Found
    y = read_all (k ∷ kept) (unkept (plainly e))

    given : Bool → Pull
    given b = (pull_unless e.closed e (if b then pull_at e id kind else pulled_after x id)).0

    by_reading : ReadsPlainly e.announced x y → listed_pull (fields_item y.0 id) (given false) ≡ listed_pull (fields_item x.0 id) (given false)
    by_reading (IsTooLong limit long) = any_list (fields_item y.0 id) (fields_item x.0 id) (given false) (unless_none e.closed e (pulled_after x id) (long_none id (is_strict e.announced) x long))
    by_reading (ReadsAlike same) = ap (λ (z : Found). listed_pull (fields_item z.0 id) (given false)) same ∙ ap (λ o. listed_pull o (given false)) (items_plain x.0 id)

    by_test : (b : Bool) → listed_pull (if b then fields_item (plainly e) id else fields_item y.0 id) (given b) ≡ listed_pull (if b then fields_item e id else fields_item x.0 id) (given b)
    by_test true = ap (λ o. listed_pull o (given true)) (items_plain e id)
    by_test false = by_reading (all_plain (k ∷ kept) (unkept e))
