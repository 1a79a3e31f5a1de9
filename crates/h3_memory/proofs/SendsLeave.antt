-- Each event of a sender leaves what is kept readable.
use Rattle.std.proofs.Common.{◌≡◌, inr, ℕ, ◌+◌, Bool, true, false, not, ◌&&◌, List, [], ◌∷◌, ◌++◌, length, refl, sym, ap, ◌∙◌, subst, append-nil, arith, Option, Some, None, if◌then◌else◌}
use Rattle.std.specs.Prelude.{flat_map, ◌||◌, is_some}
use Rattle.std.proofs.lemmas.Grind.{flat_map-append}
use Rattle.h3_field.specs.Field.{Field, section_size}
use Rattle.h3_field.specs.Instruction.DecoderInstruction.{CancelStream}
use Rattle.h3_header.specs.Head.{Head as Fields, head_fields, has_pseudo}
use Rattle.h3_header.specs.Reads.{head_of_fields}
use Rattle.h3_frames.specs.Encoded.{frame_encoding}
use Rattle.h3_proto.specs.declared.stream.Side.{Side}
use Rattle.h3_proto.specs.declared.stream.Side.TheVariants.{Client, Server}
use Rattle.h3_connection.specs.Outgoing.{takes_head, takes_body, takes_end, is_unsent, last_is_trailer}
use Rattle.h3_connection.specs.OwnIds.{other}
use Rattle.h3_connection.specs.Pulling.{is_interim}
use Rattle.h3_connection.specs.Sections.{own_instructions}
use Rattle.h3_connection.specs.Refusals.{is_too_large, of_list, unless_going, with_pseudo, wrong_side}
use Rattle.h3_connection.specs.StrictSending.{unless_malformed}
use Rattle.h3_connection.specs.declared.event.Refusal.{Refusal}
use Rattle.h3_connection.specs.declared.event.Refusal.TheVariants as refusal
use Rattle.h3_connection.specs.declared.event.StreamFault.{StreamFault}
use Rattle.h3_connection.specs.declared.event.StreamFault.TheVariants.{Canceled}
use Rattle.h3_world.specs.declared.event.Answer.{Answer}
use Rattle.h3_world.specs.declared.event.Answer.TheVariants as answer
use Rattle.h3_world.specs.Came.{settings_known}
use Rattle.h3_world.specs.Flow.{Flow, Part, part_bytes, flow_bytes}
use Rattle.h3_world.specs.Flow.Part.{Interim, Head, Body, Trailer, End}
use Rattle.h3_world.specs.Order.{is_finished, is_over, outgoing_of}
use Rattle.h3_world.specs.Refusals.{next_id, none_after, is_critical, open_refusal, head_refusal, fields_refusal, body_refusal, trailer_refusal, trailer_fields_refusal, finish_refusal, cancel_refusal, goaway_refusal}
use Rattle.h3_world.specs.Lists.{unreadable}
use Rattle.h3_world.specs.Setup.{Setup, announced_at, takes_any}
use Rattle.h3_world.specs.Sending.{appended, opened, having_encoded, section_sent, sent_head, sent_fields, sent_body, sent_trailer, sent_trailer_fields, finished, given_up, with_goaway}
use Rattle.h3_world.specs.Step.{Does}
use Rattle.h3_world.specs.Streams.{flow, with_flow, is_open}
use Rattle.h3_world.specs.World.{World, Party, party, with_party}
use Rattle.h3_headline.specs.FlowLaws.{and_second, open_there, there_open, there-with_party, flow-with_party}
use Rattle.h3_headline.specs.OpeningLaws.{flow_opened, one_more}
use Rattle.h3_headline.specs.SendingLaws.{not_refused_open, not_refused}
use Rattle.h3_headline.specs.Steps.{IsThere}
use Rattle.h3_memory.specs.Writing.{LeavesKept}
use Rattle.h3_memory.proofs.Written.{OwnGrows, FlowGrows, SameMarks, nothing_written, same_taken, nothing_sent, same_marks, grown_on, unchanged, leaves_then}
use Rattle.h3_memory.proofs.WorldsWritten.{party_leaves, flow_leaves}

-- A call that is refused changes nothing.
pub does_leave : (setup : Setup) (w after v : World) (success given : Answer) (o : Option Refusal) → (o ≡ None → LeavesKept setup w after) → Does o w success after given v → LeavesKept setup w v
does_leave setup w after v success given (Some r) done h = subst (LeavesKept setup w) (sym h.1) (unchanged setup w)
does_leave setup w after v success given None done h = subst (LeavesKept setup w) (sym h.1) (done refl)

-- One part more is sent.
pub part_grows : (f : Flow) (part : Part) → is_finished f ≡ false → FlowGrows f (appended f part)
part_grows f part open_still =
    record {
      piece = part_bytes part;
      bytes = flat_map-append part_bytes f.sent (part ∷ []) ∙ ap (λ l. flat_map part_bytes f.sent ++ l) (append-nil (part_bytes part));
      finished = λ e. absurd (differ (is_finished f) open_still e);
      reset = λ e. e;
    }
  where
    differ : (b : Bool) → b ≡ false → b ≡ true → ⊥
    differ true e f = cc
    differ false e f = cc

-- what takes a part is not finished
not_finished : (finished reset rest : Bool) → (not finished && not reset && rest) ≡ true → finished ≡ false
not_finished true reset rest e = cc
not_finished false reset rest e = refl

opposite : (b : Bool) → not b ≡ false → b ≡ true
opposite true e = refl
opposite false e = cc

-- the same where two rules follow
not_finished_then : (finished reset first second : Bool) → (not finished && not reset && first && second) ≡ true → finished ≡ false
not_finished_then true reset first second e = cc
not_finished_then false reset first second e = refl

takes_head_open : (f : Flow) → not (takes_head (outgoing_of f)) ≡ false → is_finished f ≡ false
takes_head_open f e = not_finished (is_finished f) f.is_reset (is_unsent (outgoing_of f).parts) (opposite (takes_head (outgoing_of f)) e)

takes_body_open : (f : Flow) → not (takes_body (outgoing_of f)) ≡ false → is_finished f ≡ false
takes_body_open f e = not_finished_then (is_finished f) f.is_reset (not (is_unsent (outgoing_of f).parts)) (not (last_is_trailer (outgoing_of f).parts)) (opposite (takes_body (outgoing_of f)) e)

takes_end_open : (f : Flow) → not (takes_end (outgoing_of f)) ≡ false → is_finished f ≡ false
takes_end_open f e = not_finished (is_finished f) f.is_reset (not (is_unsent (outgoing_of f).parts)) (opposite (takes_end (outgoing_of f)) e)

pub part_leaves : (setup : Setup) (w : World) (side : Side) (id : ℕ) (part : Part) → is_open w side id ≡ true → is_finished (flow w side id) ≡ false → LeavesKept setup w (with_flow w side id (appended (flow w side id) part))
part_leaves setup w side id part opened open_still =
    flow_leaves setup w side id (appended (flow w side id) part) (open_there w side id opened) (part_grows (flow w side id) part open_still) (record { delivered = refl; ended = refl; reset_came = refl }) (inr refl)

-- A section is written by the encoder, and sent.
encoded_grows : (p : Party) (id : ℕ) (fields : List Field) → OwnGrows p.own (having_encoded p id fields).own
encoded_grows p id fields =
    record {
      goaways = [];
      goaways_are = sym (append-nil p.own.goaways);
      instructions = own_instructions p.encoder id fields;
      instructions_are = refl;
      replies = [];
      replies_are = sym (append-nil p.own.replies);
    }

section_leaves : (setup : Setup) (w : World) (side : Side) (id : ℕ) (fields : List Field) (part : Part) → is_open w side id ≡ true → is_finished (flow w side id) ≡ false
    → LeavesKept setup w (with_flow (with_party w side (having_encoded (party w side) id fields)) side id (appended (flow w side id) part))
section_leaves setup w side id fields part opened open_still =
    let p = having_encoded (party w side) id fields in
    let u = with_party w side p in
    let f = flow w side id in
    let g = appended f part in
    let same : flow u side id ≡ f = flow-with_party w side side p id in
    leaves_then setup w u (with_flow u side id g) (party_leaves setup w side p (encoded_grows (party w side) id fields) (record { control = refl; encoder = refl; decoder = refl }))
    (flow_leaves setup u side id g (there-with_party w side p id (open_there w side id opened)) (subst (λ x. FlowGrows x g) (sym same) (part_grows f part open_still))
    (subst (λ x. SameMarks x g) (sym same) (record { delivered = refl; ended = refl; reset_came = refl })) (inr (sym (ap (λ (x : Flow). x.seen) same))))

pub head_leaves : (setup : Setup) (w v : World) (side : Side) (id : ℕ) (head : Fields) (a : Answer) → Does (head_refusal setup w side id head) w answer.Done (sent_head w side id head) a v → LeavesKept setup w v
head_leaves setup w v side id head a h =
    does_leave setup w (sent_head w side id head) v answer.Done a (head_refusal setup w side id head)
    (λ none.
    let f = flow w side id in
    let rest : List (Bool × Refusal) = unless_going (none_after setup w side) (wrong_side side head ∷ of_list None (settings_known setup w side) (head_fields head)) in
    let opened = not_refused_open (is_open w side id) ((not (takes_head (outgoing_of f)), refusal.OutOfOrder) ∷ rest) none in
    let takes = not_refused (not (takes_head (outgoing_of f))) refusal.OutOfOrder rest opened.1 in
    section_leaves setup w side id (head_fields head) ((if is_interim head.status then Interim else Head) (section_sent (party w side) id (head_fields head) f)) opened.0 (takes_head_open f takes.0)) h

-- a list
pub fields_leaves : (setup : Setup) (w v : World) (side : Side) (id : ℕ) (fields : List Field) (a : Answer) → Does (fields_refusal setup w side id fields) w answer.Done (sent_fields w side id fields) a v → LeavesKept setup w v
fields_leaves setup w v side id fields a h =
    does_leave setup w (sent_fields w side id fields) v answer.Done a (fields_refusal setup w side id fields)
    (λ none.
    let f = flow w side id in
    let head = head_of_fields fields in
    let rest : List (Bool × Refusal) = unless_going (none_after setup w side) (unless_malformed (unreadable (takes_any (announced_at setup side)) fields) (wrong_side side head ∷ of_list None (settings_known setup w side) fields)) in
    let opened = not_refused_open (is_open w side id) ((not (takes_head (outgoing_of f)), refusal.OutOfOrder) ∷ rest) none in
    let takes = not_refused (not (takes_head (outgoing_of f))) refusal.OutOfOrder rest opened.1 in
    section_leaves setup w side id fields ((if is_interim head.status then Interim else Head) (section_sent (party w side) id fields f)) opened.0 (takes_head_open f takes.0)) h

pub body_leaves : (setup : Setup) (w v : World) (side : Side) (id : ℕ) (bytes : List ℕ) (a : Answer) → Does (body_refusal w side id) w answer.Done (sent_body w side id bytes) a v → LeavesKept setup w v
body_leaves setup w v side id bytes a h =
    does_leave setup w (sent_body w side id bytes) v answer.Done a (body_refusal w side id)
    (λ none.
    let f = flow w side id in
    let opened = not_refused_open (is_open w side id) ((not (takes_body (outgoing_of f)), refusal.OutOfOrder) ∷ []) none in
    let takes = not_refused (not (takes_body (outgoing_of f))) refusal.OutOfOrder [] opened.1 in
    sent bytes opened.0 (takes_body_open f takes.0)) h
  where
    sent : (bytes : List ℕ) → is_open w side id ≡ true → is_finished (flow w side id) ≡ false → LeavesKept setup w (sent_body w side id bytes)
    sent [] opened open_still = unchanged setup w
    sent (byte ∷ more) opened open_still = part_leaves setup w side id (Body (byte ∷ more) (length (flow_bytes (flow w side id)) + length (frame_encoding 0 (byte ∷ more)))) opened open_still

pub trailer_leaves : (setup : Setup) (w v : World) (side : Side) (id : ℕ) (trailer : Fields) (a : Answer) → Does (trailer_refusal setup w side id trailer) w answer.Done (sent_trailer w side id trailer) a v → LeavesKept setup w v
trailer_leaves setup w v side id trailer a h =
    does_leave setup w (sent_trailer w side id trailer) v answer.Done a (trailer_refusal setup w side id trailer)
    (λ none.
    let f = flow w side id in
    let opened = not_refused_open (is_open w side id) (
    (not (takes_body (outgoing_of f)), refusal.OutOfOrder) ∷ (has_pseudo trailer, refusal.PseudoInTrailer) ∷
    (is_too_large (settings_known setup w side) (head_fields trailer), refusal.TooLarge (section_size (head_fields trailer))) ∷ []) none in
    let takes = not_refused (not (takes_body (outgoing_of f))) refusal.OutOfOrder (
    (has_pseudo trailer, refusal.PseudoInTrailer) ∷ (is_too_large (settings_known setup w side) (head_fields trailer), refusal.TooLarge (section_size (head_fields trailer))) ∷ []) opened.1 in
    section_leaves setup w side id (head_fields trailer) (Trailer (section_sent (party w side) id (head_fields trailer) f)) opened.0 (takes_body_open f takes.0)) h

pub trailer_fields_leaves : (setup : Setup) (w v : World) (side : Side) (id : ℕ) (fields : List Field) (a : Answer) → Does (trailer_fields_refusal setup w side id fields) w answer.Done (sent_trailer_fields w side id fields) a v → LeavesKept setup w v
trailer_fields_leaves setup w v side id fields a h =
    does_leave setup w (sent_trailer_fields w side id fields) v answer.Done a (trailer_fields_refusal setup w side id fields)
    (λ none.
    let f = flow w side id in
    let rest : List (Bool × Refusal) = unless_malformed (unreadable (takes_any (announced_at setup side)) fields) (with_pseudo (head_of_fields fields) ∷ of_list None (settings_known setup w side) fields) in
    let opened = not_refused_open (is_open w side id) ((not (takes_body (outgoing_of f)), refusal.OutOfOrder) ∷ rest) none in
    let takes = not_refused (not (takes_body (outgoing_of f))) refusal.OutOfOrder rest opened.1 in
    section_leaves setup w side id fields (Trailer (section_sent (party w side) id fields f)) opened.0 (takes_body_open f takes.0)) h

pub finish_leaves : (setup : Setup) (w v : World) (side : Side) (id : ℕ) (a : Answer) → Does (finish_refusal w side id) w answer.Done (finished w side id) a v → LeavesKept setup w v
finish_leaves setup w v side id a h =
    does_leave setup w (finished w side id) v answer.Done a (finish_refusal w side id)
    (λ none.
    let f = flow w side id in
    let opened = not_refused_open (is_open w side id) ((not (takes_end (outgoing_of f)), refusal.OutOfOrder) ∷ []) none in
    let takes = not_refused (not (takes_end (outgoing_of f))) refusal.OutOfOrder [] opened.1 in
    part_leaves setup w side id End opened.0 (takes_end_open f takes.0)) h

-- One more request stream.
same_party : (w : World) (side : Side) → party (opened w) side ≡ party w side
same_party w Client = refl
same_party w Server = refl

there_opened : (w : World) (i : ℕ) → IsThere w i → IsThere (opened w) i
there_opened w i h = record { request = h.request; place = omega (arith, h.place, one_more w) }

still_opened : (w : World) (side : Side) (i : ℕ) → is_open w side i ≡ true → is_open (opened w) side i ≡ true
still_opened w Client i e = there_open (opened w) i (there_opened w i (open_there w Client i e))
still_opened w Server i e =
    let client = there_open (opened w) i (there_opened w i (open_there w Server i e)) in
    let seen = and_second (is_open w Client i) (flow w Client i).seen e in
    ap (λ b. b && (flow (opened w) Client i).seen) client ∙ ap (λ (f : Flow). f.seen) (flow_opened w Client i) ∙ seen

opened_writes : (setup : Setup) (w : World) (side : Side) → Rattle.h3_memory.specs.Writing.WritesOn setup w (opened w) side
opened_writes setup w side =
    grown_on setup w (opened w) side
    (record {
      own = subst (λ q. OwnGrows (party w side).own q.own) (sym (same_party w side)) (nothing_written (party w side).own);
      flows = λ i. subst (FlowGrows (flow w side i)) (sym (flow_opened w side i)) (nothing_sent (flow w side i));
      opened = still_opened w side;
    })
    (record {
      taken = subst (λ q. Rattle.h3_memory.proofs.Written.SameTaken (party w side).own q.own) (sym (same_party w side)) (same_taken (party w side).own);
      marks = λ i. subst (SameMarks (flow w side i)) (sym (flow_opened w side i)) (same_marks (flow w side i));
    })

pub open_leaves : (setup : Setup) (w v : World) (side : Side) (a : Answer) → Does (open_refusal setup w side) w (answer.Opened (next_id w)) (opened w) a v → LeavesKept setup w v
open_leaves setup w v side a h =
    does_leave setup w (opened w) v (answer.Opened (next_id w)) a (open_refusal setup w side) (λ none. record { client = opened_writes setup w Client; server = opened_writes setup w Server }) h

-- A receiver gives a stream up.
replies_grow : (p : Party) (more : List Rattle.h3_field.specs.Instruction.DecoderInstruction) → OwnGrows p.own (record p.own { replies = p.own.replies ++ more })
replies_grow p more =
    record { goaways = []; goaways_are = sym (append-nil p.own.goaways); instructions = []; instructions_are = sym (append-nil p.own.instructions); replies = more; replies_are = refl }

pub given_leaves : (setup : Setup) (w : World) (receiver : Side) (id : ℕ) (fault : StreamFault) → IsThere w id → LeavesKept setup w (given_up w receiver id fault)
given_leaves setup w receiver id fault there =
    let old = party w receiver in
    let p : Party = record old { own = record old.own { replies = old.own.replies ++ CancelStream id ∷ [] } } in
    let u = with_party w receiver p in
    let f = flow w (other receiver) id in
    let g : Flow = record f { fault = Some fault; waits_for = 0 } in
    let same : flow u (other receiver) id ≡ f = flow-with_party w receiver (other receiver) p id in
    leaves_then setup w u (with_flow u (other receiver) id g) (party_leaves setup w receiver p (replies_grow old (CancelStream id ∷ [])) (record { control = refl; encoder = refl; decoder = refl }))
    (flow_leaves setup u (other receiver) id g (there-with_party w receiver p id there) (subst (λ x. FlowGrows x g) (sym same) (given_grows f g refl refl))
    (subst (λ x. SameMarks x g) (sym same) (record { delivered = refl; ended = refl; reset_came = refl })) (inr (sym (ap (λ (x : Flow). x.seen) same))))
  where
    given_grows : (f g : Flow) → g.sent ≡ f.sent → g.is_reset ≡ f.is_reset → FlowGrows f g
    given_grows f g sent reset =
        record {
          piece = [];
          bytes = ap (flat_map part_bytes) sent ∙ sym (append-nil (flow_bytes f));
          finished = λ e. (ap (λ r. is_finished (record g { is_reset = r })) reset ∙ ap (λ s. is_finished (record f { sent = s })) sent ∙ e, ap (flat_map part_bytes) sent);
          reset = λ e. reset ∙ e;
        }

not_critical : (critical there : Bool) (rules : List (Bool × Refusal)) → Rattle.h3_connection.specs.Refusals.first_of ((critical, refusal.Critical) ∷ (not there, refusal.NotOpen) ∷ rules) ≡ None → there ≡ true
not_critical true there rules e = cc
not_critical false true rules e = refl
not_critical false false rules e = cc

pub cancel_leaves : (setup : Setup) (w v : World) (side : Side) (id : ℕ) (a : Answer) → Does (cancel_refusal w side id) w answer.Done (given_up w side id Canceled) a v → LeavesKept setup w v
cancel_leaves setup w v side id a h =
    does_leave setup w (given_up w side id Canceled) v answer.Done a (cancel_refusal w side id)
    (λ none.
    given_leaves setup w side id Canceled
    (open_there w side id (not_critical (is_critical id) (is_open w side id) ((is_over (flow w (other side) id) || is_some (flow w (other side) id).fault, refusal.Ended) ∷ []) none))) h

-- a GOAWAY frame
pub goaway_leaves : (setup : Setup) (w v : World) (side : Side) (id : ℕ) (a : Answer) → Does (goaway_refusal w side id) w answer.Done (with_goaway w side id) a v → LeavesKept setup w v
goaway_leaves setup w v side id a h =
    does_leave setup w (with_goaway w side id) v answer.Done a (goaway_refusal w side id)
    (λ none.
    let p = party w side in
    party_leaves setup w side (record p { own = record p.own { goaways = p.own.goaways ++ id ∷ [] } })
    (record { goaways = id ∷ []; goaways_are = refl; instructions = []; instructions_are = sym (append-nil p.own.instructions); replies = []; replies_are = sym (append-nil p.own.replies) })
    (record { control = refl; encoder = refl; decoder = refl })) h
