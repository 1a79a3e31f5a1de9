-- Lists of fields that are sent or refused do to what is stored what their contracts say.
use Rattle.std.proofs.Common.{◌≡◌, ℕ, ◌<◌, Bool, true, false, if◌then◌else◌, List, [], ◌∷◌, length, Option, Some, None, Result, Err, refl, ap, sym, subst, ◌∙◌, arith}
use Rattle.std.specs.Prelude.{◌≢◌, not}
use Rattle.h3_field.specs.Field.{Field, section_size}
use Rattle.h3_header.specs.Head.{Head, has_pseudo}
use Rattle.h3_header.specs.HeadRead.{HeadRead, IsHead, IsNone, head_by}
use Rattle.h3_header.specs.ReadTakenLaws.{heads_are_taken}
use Rattle.h3_proto.specs.declared.stream.Side.{Side}
use Rattle.h3_connection.specs.Answers.{call_refused}
use Rattle.h3_connection.specs.Remembering.{settings_known}
use Rattle.h3_connection.specs.Endpoint.{EndpointHistory}
use Rattle.h3_connection.specs.OwnIds.{other}
use Rattle.h3_connection.specs.Pulling.{is_for, is_interim}
use Rattle.h3_connection.specs.Outgoing.{takes_head, takes_body}
use Rattle.h3_connection.specs.Refusals.{first_of, is_too_large, or_later, wrong_side, unless_going}
use Rattle.h3_connection.specs.Sending.{does, closed_or, is_open, outgoing_at, sender_at, broken_head_at}
use Rattle.h3_connection.specs.SendingContracts.{CutsOff, MayLackMemory}
use Rattle.h3_connection.specs.State.{EndpointState, RequestState, StandsFor, kept_at}
use Rattle.h3_connection.specs.StrictSending.{broken_protocol, broken_trailer, early_trailer, unless_malformed}
use Rattle.h3_connection.specs.declared.event.Malformation.{Malformation}
use Rattle.h3_connection.specs.declared.event.Malformation.TheVariants as malformation
use Rattle.h3_connection.specs.declared.setup.Announced.{Announced}
use Rattle.h3_connection.specs.declared.event.Refusal.{Refusal}
use Rattle.h3_connection.specs.declared.event.Refusal.TheVariants as refusal
use Rattle.h3_connection.specs.declared.place.SendPlace.{SendPlace}
use Rattle.h3_connection.specs.declared.place.SendPlace.TheVariants.{NothingSent, HeadSent}
use Rattle.h3_requests.specs.Refused.{body_refused_at, seen_in}
use Rattle.h3_session.specs.JudgedLists.{head_list_refusal, trailer_list_refusal, IsHeadAt, IsTrailer}
use Rattle.h3_session.specs.Refused.{own_head_refused, own_trailer_refused, side_refused, pseudo_refused, head_refused_in, sender_on}
use Rattle.h3_session.specs.SendingLists.{SendsList, SendsFieldList, SendsTrailerList, SendsJudged, SendsJudgedHead, SendsJudgedTrailer, NotMalformed, IsReadable, MayLackSize, MayLackMap, refusal_after, malformed, order_refusal, place_refusal, send_fields, send_trailer_fields, send_read_head, send_read_trailer, send_listed_head, send_listed_trailer, listed_head_refusal, listed_trailer_refusal, after_head, after_trailer}
use Rattle.h3_session.proofs.SendingCalls.{same_itself}
use Rattle.h3_session.proofs.SendingRefusals.{place_refusal_is, order_refusal_is, going_takes_none}
use Rattle.h3_session.proofs.SendingSections.{not_begun}

-- The call with a header of these fields, as one with the list.
may_size : (o : Option Refusal) → MayLackMemory o → NotMalformed o → MayLackSize o
may_size None m rules = tt
may_size (Some (refusal.Malformed why)) m rules = absurd rules
may_size (Some (refusal.TooLarge size)) m rules = tt
may_size (Some _) m rules = m

may_map : (o : Option Refusal) → MayLackMemory o → MayLackMap o
may_map None m = tt
may_map (Some refusal.WrongSide) m = tt
may_map (Some refusal.PseudoInTrailer) m = tt
may_map (Some (refusal.Malformed why)) m = tt
may_map (Some _) m = m

listed : (act : EndpointHistory → Option Refusal × EndpointHistory) (old new : EndpointState) (id : ℕ) (fields : List Field) (refused : Option Refusal) → IsReadable (head_by old.announced.choices.extensions.any_protocol fields)
    → SendsJudged act old new id fields refused → SendsList act old new id fields refused
listed act old new id fields refused read judged =
    let h = judged.sends in
    record {
      done = h.done;
      same = h.same;
      memory = λ e stands told. let m = h.memory e stands told in (may_map (act e).0 m.0, m.1);
      short = λ e stands told few. may_size (act e).0 (h.memory e stands told).0 (judged.judged e stands told);
      readable = λ told few. read;
      refused = h.too_large;
    }

reads_head : (side : Side) (r : HeadRead) (place : SendPlace) → IsHeadAt side r place → IsReadable r
reads_head side (IsHead head) place at = tt
reads_head side (IsNone why) place at = absurd at

reads_trailer : (r : HeadRead) → IsTrailer r → IsReadable r
reads_trailer (IsHead trailer) at = tt
reads_trailer (IsNone why) at = absurd at

-- A call that is refused by its list or its stream, with nothing changed.
module _ (act : EndpointHistory → Option Refusal × EndpointHistory) (s : EndpointState) (id : ℕ) (fields : List Field) where
  refuses : (told : Refusal) → ((e : EndpointHistory) → StandsFor s e → act e ≡ (Some told, e)) → told ≢ refusal.OutOfMemory → SendsList act s s id fields (Some told)
  refuses told is unlike =
      record {
        done = λ e stands ne. (sym (ap (λ p. p.0) (is e stands)), subst (StandsFor s) (sym (ap (λ p. p.1) (is e stands))) stands);
        same = λ some ne. same_itself s;
        memory = λ e stands memory. absurd (unlike (let same : told ≡ refusal.OutOfMemory = cc in same));
        short = λ e stands memory few. absurd (unlike (let same : told ≡ refusal.OutOfMemory = cc in same));
        readable = λ memory few. absurd (unlike (let same : told ≡ refusal.OutOfMemory = cc in same));
        refused = λ e stands memory some. same_itself s;
      }

  lacks : 24576 < length fields → ((e : EndpointHistory) → StandsFor s e → MayLackMap (act e).0) → SendsList act s s id fields (Some refusal.OutOfMemory)
  lacks many may =
      record {
        done = λ e stands ne. absurd (ne refl);
        same = λ some ne. absurd (ne refl);
        memory = λ e stands memory. (may e stands, not_begun s e id fields stands);
        short = λ e stands memory few. absurd (omega (arith, many, few));
        readable = λ memory few. absurd (omega (arith, many, few));
        refused = λ e stands memory some. same_itself s;
      }

-- the first refusal is that of the whole rule
sized_first : (closed : Option ℕ) (a b : Bool) (p q : Refusal) (rest : Option Refusal) (r : Refusal)
    → closed_or closed (if a then Some p else (if b then Some q else None)) ≡ Some r → closed_or closed (if a then Some p else (if b then Some q else rest)) ≡ Some r
sized_first (Some code) a b p q rest r is = is
sized_first None true b p q rest r is = is
sized_first None false true p q rest r is = is
sized_first None false false p q rest r is = absurd (cc)

-- and where there is none, what comes behind it
sized_rest : (closed : Option ℕ) (a b : Bool) (p q : Refusal) (rest : Option Refusal)
    → closed_or closed (if a then Some p else (if b then Some q else None)) ≡ None → closed_or closed (if a then Some p else (if b then Some q else rest)) ≡ rest
sized_rest (Some code) a b p q rest is = absurd (cc)
sized_rest None true b p q rest is = absurd (cc)
sized_rest None false true p q rest is = absurd (cc)
sized_rest None false false p q rest is = refl

-- the same of a head, with the GOAWAY behind its place
going_first : (closed : Option ℕ) (a b : Bool) (p q : Refusal) (going : Option ℕ) (rest : List (Bool × Refusal)) (r : Refusal)
    → closed_or closed (first_of ((a, p) ∷ (b, q) ∷ unless_going going [])) ≡ Some r → closed_or closed (first_of ((a, p) ∷ (b, q) ∷ unless_going going rest)) ≡ Some r
going_first (Some code) a b p q going rest r is = is
going_first None true b p q going rest r is = is
going_first None false true p q going rest r is = is
going_first None false false p q (Some id) rest r is = is
going_first None false false p q None rest r is = absurd (cc)

going_rest : (closed : Option ℕ) (a b : Bool) (p q : Refusal) (going : Option ℕ) (rest : List (Bool × Refusal))
    → closed_or closed (first_of ((a, p) ∷ (b, q) ∷ unless_going going [])) ≡ None → closed_or closed (first_of ((a, p) ∷ (b, q) ∷ unless_going going rest)) ≡ first_of rest
going_rest (Some code) a b p q going rest is = absurd (cc)
going_rest None true b p q going rest is = absurd (cc)
going_rest None false true p q going rest is = absurd (cc)
going_rest None false false p q (Some id) rest is = absurd (cc)
going_rest None false false p q None rest is = refl

abbrev is_no_memory : Refusal → Bool
is_no_memory refusal.OutOfMemory = true
is_no_memory _ = false

no_memory_is : (r : Refusal) → is_no_memory r ≡ true → r ≡ refusal.OutOfMemory
no_memory_is refusal.OutOfMemory is = refl
no_memory_is _ is = cc

told_of : (rule : Option Refusal) (e f : EndpointHistory) → (does rule e f).0 ≡ rule
told_of None e f = refl
told_of (Some r) e f = refl

-- What is sent of a list by its rule, which begins with the stream's own refusal: that one comes first,
module _ (act : EndpointHistory → Option Refusal × EndpointHistory) (own : EndpointHistory → Option Refusal) (s : EndpointState) (id : ℕ) (fields : List Field) where
  -- the call by the stream's refusal, what comes behind that, and what is told of that
  record Begins (later : Refusal) : Type 0 where
    first : (e : EndpointHistory) (r : Refusal) → own e ≡ Some r → act e ≡ (Some r, e)
    told : later ≢ refusal.OutOfMemory → (e : EndpointHistory) → StandsFor s e → own e ≡ None → act e ≡ (Some later, e)
    map : later ≡ refusal.OutOfMemory → (24576 < length fields) × ((e : EndpointHistory) → own e ≡ None → MayLackMap (act e).0)

  by_stream : (later : Refusal) (there : Option Refusal) → Begins later → ((e : EndpointHistory) → StandsFor s e → own e ≡ there) → there ≢ Some refusal.OutOfMemory
      → SendsList act s s id fields (Some (refusal_after there later))
  by_stream later (Some r) begins is unlike =
      refuses act s id fields r (λ e stands. begins.first e r (is e stands)) (λ same. unlike (let memory : r ≡ refusal.OutOfMemory = cc in ap Some memory))
  by_stream later None begins is unlike = by (is_no_memory later) refl
    where
      by : (b : Bool) → is_no_memory later ≡ b → SendsList act s s id fields (Some later)
      by true memory =
          let m = begins.map (no_memory_is later memory) in
          subst (λ t. SendsList act s s id fields (Some t)) (sym (no_memory_is later memory)) (lacks act s id fields m.0 (λ e stands. m.1 e (is e stands)))
      by false other_one =
          let differs : later ≢ refusal.OutOfMemory = λ same. let wrong : true ≡ false = sym (ap is_no_memory same) ∙ other_one in cc in
          refuses act s id fields later (λ e stands. begins.told differs e stands (is e stands)) differs

-- a list in the place of a head
not_memory_at : (a b : Bool) → first_of ((a, refusal.NotOpen) ∷ (b, refusal.OutOfOrder) ∷ []) ≢ Some refusal.OutOfMemory
not_memory_at true b is = absurd (cc)
not_memory_at false true is = absurd (cc)
not_memory_at false false is = absurd (cc)

not_memory_in : (a b : Bool) (going : Option ℕ) → or_later (first_of ((a, refusal.NotOpen) ∷ (b, refusal.OutOfOrder) ∷ [])) (first_of (unless_going going [])) ≢ Some refusal.OutOfMemory
not_memory_in true b going is = absurd (cc)
not_memory_in false true going is = absurd (cc)
not_memory_in false false going is = going_takes_none going is

head_not_memory : (s : EndpointState) (id : ℕ) → head_refused_in s id ≢ Some refusal.OutOfMemory
head_not_memory s id is = let v = seen_in (kept_at s.requests id) in not_memory_in (not v.is_open) (not v.takes_head) (sender_on s id).going is

body_not_memory : (there : Option RequestState) → body_refused_at there ≢ Some refusal.OutOfMemory
body_not_memory there is = let v = seen_in there in not_memory_at (not v.is_open) (not v.takes_body) is

-- what is judged of the list behind the stream's refusal and that of the place
abbrev judged_last : Option Malformation → Bool → ℕ → Option Refusal
judged_last broken b size = first_of (unless_malformed broken ((b, refusal.TooLarge size) ∷ []))

may_last : (broken : Option Malformation) (b : Bool) (size : ℕ) → MayLackMap (judged_last broken b size)
may_last (Some why) b size = tt
may_last None true size = tt
may_last None false size = tt

may_behind : (a : Bool) (p : Refusal) (broken : Option Malformation) (b : Bool) (size : ℕ) → MayLackMap (Some p) → MayLackMap (if a then Some p else judged_last broken b size)
may_behind true p broken b size may = may
may_behind false p broken b size may = may_last broken b size

-- a list whose protocol is not taken is malformed
may_malformed : (why : Option Malformation) (rules : List (Bool × Refusal)) → MayLackMap (first_of rules) → MayLackMap (first_of (unless_malformed why rules))
may_malformed None rules h = h
may_malformed (Some why) rules h = tt

-- the same of a trailer, behind the rule of what was sent in front of it
abbrev judged_trailer : Option Malformation → Option Malformation → Bool → ℕ → Option Refusal
judged_trailer early broken b size = first_of (unless_malformed early (unless_malformed broken ((b, refusal.TooLarge size) ∷ [])))

may_behind_early : (a : Bool) (p : Refusal) (early broken : Option Malformation) (b : Bool) (size : ℕ) → MayLackMap (Some p) → MayLackMap (if a then Some p else judged_trailer early broken b size)
may_behind_early true p early broken b size may = may
may_behind_early false p (Some why) broken b size may = tt
may_behind_early false p None broken b size may = may_last broken b size

behind_rule : (a : Bool) (p : Refusal) (rest : Option Refusal) (later : Refusal) → first_of ((a, p) ∷ []) ≡ Some later → (if a then Some p else rest) ≡ Some p
behind_rule true p rest later is = refl
behind_rule false p rest later is = absurd (cc)

refused_later : (a : Bool) (p : Refusal) (later : Refusal) → first_of ((a, p) ∷ []) ≡ Some later → p ≡ later
refused_later true p later is = let same : p ≡ later = cc in same
refused_later false p later is = absurd (cc)

-- Two calls that are one of each history that the state stands for.
pub alike : (one two : EndpointHistory → Option Refusal × EndpointHistory) (s new : EndpointState) (id : ℕ) (fields : List Field) (told : Option Refusal)
    → ((e : EndpointHistory) → StandsFor s e → one e ≡ two e) → SendsList one s new id fields told → SendsList two s new id fields told
alike one two s new id fields told same h =
    record {
      done = λ e stands ne. subst (λ (p : Option Refusal × EndpointHistory). (told ≡ p.0) × StandsFor new p.1) (same e stands) (h.done e stands ne);
      same = h.same;
      memory = λ e stands memory. subst (λ (p : Option Refusal × EndpointHistory). MayLackMap p.0 × CutsOff e id fields new) (same e stands) (h.memory e stands memory);
      short = λ e stands memory few. subst (λ (p : Option Refusal × EndpointHistory). MayLackSize p.0) (same e stands) (h.short e stands memory few);
      readable = h.readable;
      refused = λ e stands memory some. h.refused e stands memory (subst (λ (p : Option Refusal × EndpointHistory). p.0 ≢ None) (sym (same e stands)) some);
    }

module _ (s : EndpointState) (id : ℕ) (fields : List Field) where
  -- what the list reads as here
  abbrev read : HeadRead
  read = head_by s.announced.choices.extensions.any_protocol fields

  -- so its protocol is taken
  abbrev IsTakenBy : HeadRead → Type 0
  IsTakenBy r = (h : Head) → r ≡ IsHead h → broken_protocol s.announced h ≡ None

  taken : IsTakenBy read
  taken h is = ap (λ b. let rule : Option Malformation = if b then None else Some malformation.Value in rule) (heads_are_taken s.announced.choices.extensions.any_protocol fields h is)

  taken_in : (e : EndpointHistory) (h : Head) → StandsFor s e → broken_protocol s.announced h ≡ None → broken_protocol e.announced h ≡ None
  taken_in e h stands none = subst (λ (own : Announced). broken_protocol own h ≡ None) stands.announced none

  -- the rules of a head behind those of its stream
  abbrev sides : EndpointHistory → Head → List (Bool × Refusal)
  sides e head = (not (is_for (other e.side) head), refusal.WrongSide) ∷ unless_malformed (broken_head_at e id fields) ((is_too_large (settings_known e.announced e.peer.settings) fields, refusal.TooLarge (section_size fields)) ∷ [])

  as_fields : (new : EndpointState) (told : Option Refusal) → SendsList (λ e. send_read_head e id fields read) s new id fields told → SendsList (λ e. send_fields e id fields) s new id fields told
  as_fields new told h =
      alike (λ e. send_read_head e id fields read) (λ e. send_fields e id fields) s new id fields told
      (λ e stands. ap (λ (own : Announced). send_read_head e id fields (head_by own.choices.extensions.any_protocol fields)) stands.announced) h

  head_first : (r : HeadRead) (e : EndpointHistory) (x : Refusal) → place_refusal e id ≡ Some x → send_read_head e id fields r ≡ (Some x, e)
  head_first (IsHead head) e x is =
      ap (λ o. does o e (after_head e id head fields))
      (going_first e.closed (not (is_open e id)) (not (takes_head (outgoing_at e id))) refusal.NotOpen refusal.OutOfOrder (sender_at e id).going
      (unless_malformed (broken_protocol e.announced head) (sides e head)) x is)
  head_first (IsNone why) e x is = ap (λ o. (Some (refusal_after o (malformed why)), e)) is

  head_behind : (e : EndpointHistory) (head : Head) → place_refusal e id ≡ None
      → listed_head_refusal e id head fields ≡ first_of (unless_malformed (broken_protocol e.announced head) (sides e head))
  head_behind e head is = going_rest e.closed (not (is_open e id)) (not (takes_head (outgoing_at e id))) refusal.NotOpen refusal.OutOfOrder (sender_at e id).going (unless_malformed (broken_protocol e.announced head) (sides e head)) is

  head_begins : (r : HeadRead) (later : Refusal) → IsTakenBy r → (later ≢ refusal.OutOfMemory → head_list_refusal s.side r ≡ Some later) → (later ≡ refusal.OutOfMemory → 24576 < length fields)
      → Begins (λ e. send_read_head e id fields r) (λ e. place_refusal e id) s id fields later
  head_begins (IsHead head) later is_taken errs many =
      record {
        first = head_first (IsHead head);
        told = λ differs e stands is.
            let here : first_of (wrong_side e.side head ∷ []) ≡ Some later
            = subst (λ side. side_refused side head ≡ Some later) stands.side (errs differs) in
            ap (λ o. does o e (after_head e id head fields))
            (head_behind e head is ∙ ap (λ p. first_of (unless_malformed p (sides e head))) (taken_in e head stands (is_taken head refl)) ∙ behind_rule (not (is_for (other e.side) head)) refusal.WrongSide (judged_last (broken_head_at e id fields) (is_too_large (settings_known e.announced e.peer.settings) fields) (section_size fields)) later here)
            ∙ ap (λ t. (Some t, e)) (refused_later (not (is_for (other e.side) head)) refusal.WrongSide later here);
        map = λ memory. (
          many memory,
          λ e is.
              subst MayLackMap (sym (head_behind e head is)
              ∙ sym (told_of (listed_head_refusal e id head fields) e (after_head e id head fields)))
              (may_malformed (broken_protocol e.announced head) (sides e head)
              (may_behind (not (is_for (other e.side) head)) refusal.WrongSide (broken_head_at e id fields) (is_too_large (settings_known e.announced e.peer.settings) fields) (section_size fields) tt)),
        );
      }
  head_begins (IsNone why) later is_taken errs many =
      record {
        first = head_first (IsNone why);
        told = λ differs e stands is. ap (λ o. (Some (refusal_after o (malformed why)), e)) is ∙ ap (λ t. (t, e)) (errs differs);
        map = λ memory. (many memory, λ e is. subst (λ o. MayLackMap (Some (refusal_after o (malformed why)))) (sym is) tt);
      }

  pub head_list_closed : (code : ℕ) → s.closed ≡ Some code → SendsFieldList s s id fields (Err (refusal.Closed code))
  head_list_closed code closed =
      as_fields s (Some (refusal.Closed code))
      (refuses (λ e. send_read_head e id fields read) s id fields (refusal.Closed code)
      (λ e stands. head_first read e (refusal.Closed code)
      (ap (λ c. closed_or c (first_of ((not (is_open e id), refusal.NotOpen) ∷ (not (takes_head (outgoing_at e id)), refusal.OutOfOrder) ∷ unless_going (sender_at e id).going []))) (sym stands.closed ∙ closed))) (λ same. absurd (cc)))

  pub head_list_early : (r : Refusal) → s.closed ≡ None → head_refused_in s id ≡ Some r → SendsFieldList s s id fields (Err r)
  head_list_early r closed is =
      as_fields s (Some r)
      (refuses (λ e. send_read_head e id fields read) s id fields r
      (λ e stands. head_first read e r (sym (place_refusal_is s e id stands) ∙ ap (λ c. closed_or c (head_refused_in s id)) closed ∙ is))
      (λ same. head_not_memory s id (is ∙ (let memory : r ≡ refusal.OutOfMemory = cc in ap Some memory))))

  pub head_list_refused : (later told : Refusal) → s.closed ≡ None → (later ≢ refusal.OutOfMemory → head_list_refusal s.side read ≡ Some later) → (later ≡ refusal.OutOfMemory → 24576 < length fields)
      → told ≡ refusal_after (head_refused_in s id) later → SendsFieldList s s id fields (Err told)
  head_list_refused later told closed errs many is =
      subst (λ t. SendsFieldList s s id fields (Err t)) (sym is)
      (as_fields s (Some (refusal_after (head_refused_in s id) later))
      (by_stream (λ e. send_read_head e id fields read) (λ e. place_refusal e id) s id fields later (head_refused_in s id) (head_begins read later taken errs many)
      (λ e stands. sym (place_refusal_is s e id stands) ∙ ap (λ c. closed_or c (head_refused_in s id)) closed) (head_not_memory s id)))

  pub head_list_sent : (new : EndpointState) (place : SendPlace) (answer : Result Unit Refusal) → IsHeadAt s.side read place
      → ((head : Head) → own_head_refused s.announced s.side head ≡ None → place ≡ (if is_interim head.status then NothingSent else HeadSent) → SendsJudgedHead s new id head fields answer)
      → SendsFieldList s new id fields answer
  head_list_sent new place answer at sends = as_fields new (call_refused answer) (by read taken at)
    where
      by : (r : HeadRead) → IsTakenBy r → IsHeadAt s.side r place → SendsList (λ e. send_read_head e id fields r) s new id fields (call_refused answer)
      by (IsHead head) is_taken here =
          listed (λ e. send_listed_head e id head fields) s new id fields (call_refused answer) (reads_head s.side read place at)
          (sends head (ap (λ p. or_later (first_of (unless_malformed p [])) (side_refused s.side head)) (is_taken head refl) ∙ here.0) here.1)
      by (IsNone why) is_taken here = absurd here

  -- a list in the place of a trailer
  abbrev pseudo : EndpointHistory → Head → List (Bool × Refusal)
  pseudo e trailer =
      (has_pseudo trailer, refusal.PseudoInTrailer) ∷
      unless_malformed (early_trailer (outgoing_at e id).content) (unless_malformed (broken_trailer e.announced fields) ((is_too_large (settings_known e.announced e.peer.settings) fields, refusal.TooLarge (section_size fields)) ∷ []))

  as_trailer_fields : (new : EndpointState) (told : Option Refusal) → SendsList (λ e. send_read_trailer e id fields read) s new id fields told → SendsList (λ e. send_trailer_fields e id fields) s new id fields told
  as_trailer_fields new told h =
      alike (λ e. send_read_trailer e id fields read) (λ e. send_trailer_fields e id fields) s new id fields told
      (λ e stands. ap (λ (own : Announced). send_read_trailer e id fields (head_by own.choices.extensions.any_protocol fields)) stands.announced) h

  trailer_first : (r : HeadRead) (e : EndpointHistory) (x : Refusal) → order_refusal e id ≡ Some x → send_read_trailer e id fields r ≡ (Some x, e)
  trailer_first (IsHead trailer) e x is =
      ap (λ o. does o e (after_trailer e id fields))
      (sized_first e.closed (not (is_open e id)) (not (takes_body (outgoing_at e id))) refusal.NotOpen refusal.OutOfOrder
      (first_of (unless_malformed (broken_protocol e.announced trailer) (pseudo e trailer))) x is)
  trailer_first (IsNone why) e x is = ap (λ o. (Some (refusal_after o (malformed why)), e)) is

  trailer_behind : (e : EndpointHistory) (trailer : Head) → order_refusal e id ≡ None
      → listed_trailer_refusal e id trailer fields ≡ first_of (unless_malformed (broken_protocol e.announced trailer) (pseudo e trailer))
  trailer_behind e trailer is = sized_rest e.closed (not (is_open e id)) (not (takes_body (outgoing_at e id))) refusal.NotOpen refusal.OutOfOrder _ is

  trailer_begins : (r : HeadRead) (later : Refusal) → IsTakenBy r → (later ≢ refusal.OutOfMemory → trailer_list_refusal r ≡ Some later) → (later ≡ refusal.OutOfMemory → 24576 < length fields)
      → Begins (λ e. send_read_trailer e id fields r) (λ e. order_refusal e id) s id fields later
  trailer_begins (IsHead trailer) later is_taken errs many =
      record {
        first = trailer_first (IsHead trailer);
        told = λ differs e stands is.
            ap (λ o. does o e (after_trailer e id fields))
            (trailer_behind e trailer is ∙ ap (λ p. first_of (unless_malformed p (pseudo e trailer))) (taken_in e trailer stands (is_taken trailer refl)) ∙ behind_rule (has_pseudo trailer) refusal.PseudoInTrailer (judged_trailer (early_trailer (outgoing_at e id).content) (broken_trailer e.announced fields) (is_too_large (settings_known e.announced e.peer.settings) fields) (section_size fields)) later (errs differs))
            ∙ ap (λ t. (Some t, e)) (refused_later (has_pseudo trailer) refusal.PseudoInTrailer later (errs differs));
        map = λ memory. (
          many memory,
          λ e is.
              subst MayLackMap (sym (trailer_behind e trailer is)
              ∙ sym (told_of (listed_trailer_refusal e id trailer fields) e (after_trailer e id fields)))
              (may_malformed (broken_protocol e.announced trailer) (pseudo e trailer)
              (may_behind_early (has_pseudo trailer) refusal.PseudoInTrailer (early_trailer (outgoing_at e id).content) (broken_trailer e.announced fields) (is_too_large (settings_known e.announced e.peer.settings) fields) (section_size fields) tt)),
        );
      }
  trailer_begins (IsNone why) later is_taken errs many =
      record {
        first = trailer_first (IsNone why);
        told = λ differs e stands is. ap (λ o. (Some (refusal_after o (malformed why)), e)) is ∙ ap (λ t. (t, e)) (errs differs);
        map = λ memory. (many memory, λ e is. subst (λ o. MayLackMap (Some (refusal_after o (malformed why)))) (sym is) tt);
      }

  pub trailer_list_closed : (code : ℕ) → s.closed ≡ Some code → SendsTrailerList s s id fields (Err (refusal.Closed code))
  trailer_list_closed code closed =
      as_trailer_fields s (Some (refusal.Closed code))
      (refuses (λ e. send_read_trailer e id fields read) s id fields (refusal.Closed code)
      (λ e stands. trailer_first read e (refusal.Closed code)
      (ap (λ c. closed_or c (first_of ((not (is_open e id), refusal.NotOpen) ∷ (not (takes_body (outgoing_at e id)), refusal.OutOfOrder) ∷ []))) (sym stands.closed ∙ closed))) (λ same. absurd (cc)))

  pub trailer_list_early : (r : Refusal) → s.closed ≡ None → body_refused_at (kept_at s.requests id) ≡ Some r → SendsTrailerList s s id fields (Err r)
  trailer_list_early r closed is =
      as_trailer_fields s (Some r)
      (refuses (λ e. send_read_trailer e id fields read) s id fields r
      (λ e stands. trailer_first read e r (sym (order_refusal_is s e id stands) ∙ ap (λ c. closed_or c (body_refused_at (kept_at s.requests id))) closed ∙ is))
      (λ same. body_not_memory (kept_at s.requests id) (is ∙ (let memory : r ≡ refusal.OutOfMemory = cc in ap Some memory))))

  pub trailer_list_refused : (later told : Refusal) → s.closed ≡ None → (later ≢ refusal.OutOfMemory → trailer_list_refusal read ≡ Some later) → (later ≡ refusal.OutOfMemory → 24576 < length fields)
      → told ≡ refusal_after (body_refused_at (kept_at s.requests id)) later → SendsTrailerList s s id fields (Err told)
  trailer_list_refused later told closed errs many is =
      subst (λ t. SendsTrailerList s s id fields (Err t)) (sym is)
      (as_trailer_fields s (Some (refusal_after (body_refused_at (kept_at s.requests id)) later))
      (by_stream (λ e. send_read_trailer e id fields read) (λ e. order_refusal e id) s id fields later (body_refused_at (kept_at s.requests id)) (trailer_begins read later taken errs many)
      (λ e stands. sym (order_refusal_is s e id stands) ∙ ap (λ c. closed_or c (body_refused_at (kept_at s.requests id))) closed) (body_not_memory (kept_at s.requests id))))

  pub trailer_list_sent : (new : EndpointState) (answer : Result Unit Refusal) → IsTrailer read
      → ((trailer : Head) → own_trailer_refused s.announced trailer ≡ None → SendsJudgedTrailer s new id trailer fields answer) → SendsTrailerList s new id fields answer
  trailer_list_sent new answer at sends = as_trailer_fields new (call_refused answer) (by read taken at)
    where
      by : (r : HeadRead) → IsTakenBy r → IsTrailer r → SendsList (λ e. send_read_trailer e id fields r) s new id fields (call_refused answer)
      by (IsHead trailer) is_taken here =
          listed (λ e. send_listed_trailer e id trailer fields) s new id fields (call_refused answer) (reads_trailer read at)
          (sends trailer (ap (λ p. or_later (first_of (unless_malformed p [])) (pseudo_refused trailer)) (is_taken trailer refl) ∙ here))
      by (IsNone why) is_taken here = absurd here
