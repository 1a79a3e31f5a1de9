-- What stands next on a request stream and is too long is a section: no other frame that an end sends is kept whole.
use Rattle.std.proofs.Common.{◌≡◌, inl, inr, ℕ, zero, suc, ◌<◌, ◌^◌, lit<, Bool, true, false, List, [], ◌∷◌, ◌++◌, Option, Some, None, refl, sym, ap, ◌∙◌, subst, drop, length, nat_lt, arith, append_assoc}
use Rattle.std.specs.Prelude.{◌&&◌, ◌==◌, unwrap_or}
use Rattle.std.specs.List.{AllByRecursion, concat, flat_map}
use Rattle.std.proofs.lemmas.Bool.{cases_lt, lt-ltb, ne_eqb}
use Rattle.h3_coding.specs.Encodings.{encoding}
use Rattle.h3_coding.specs.Varint.{varint_at}
use Rattle.h3_coding.specs.VarintLaws.{cases_number, none_at_end, reads_more, reads_shortest}
use Rattle.h3_frames.specs.Encoded.{frame_encoding, head_encoding}
use Rattle.h3_frames.specs.EncodedLaws.{written_headers}
use Rattle.h3_frames.specs.ExcessiveFrames.{begins_section, is_excessive_by, is_of_type}
use Rattle.h3_frames.specs.ExcessiveLaws.{none_told}
use Rattle.h3_frames.specs.FrameLaws.{no_update}
use Rattle.h3_frames.specs.Frames.{frame_by}
use Rattle.h3_frames.specs.declared.frame.kinds.FrameKinds.{FrameKinds}
use Rattle.h3_frames.specs.declared.proto.frame.Frame.TheVariants as frame
use Rattle.h3_connection.specs.Incoming.{Incoming, is_body}
use Rattle.h3_connection.specs.Skipping.{skipped}
use Rattle.h3_world.specs.Flow.{Flow, Part, flow_bytes, part_bytes}
use Rattle.h3_world.specs.Flow.Part.{Body, End, Head, Interim, Trailer}
use Rattle.h3_world.specs.Order.{next_part}
use Rattle.h3_world.specs.Sound.{AreSent, IsSoundFlow}
use Rattle.h3_world.specs.World.{Party}
use Rattle.h3_headline.specs.FrontLaws.{data_front, long_front, short_front, skipped_none, skipped_unfinished, skipped_whole, unfinished_data, unfinished_section}
use Rattle.h3_headline.specs.Standing.{ReceivesFlow, StandsBefore, section_frame}
use Rattle.h3_strict.proofs.TakenFronts.{head_within}

-- a frame has a length, and no piece of a body is empty
abbrev IsFramed : Part → Type 0
IsFramed (Interim s) = length s.encoded < 2 ^ 62
IsFramed (Head s) = length s.encoded < 2 ^ 62
IsFramed (Trailer s) = length s.encoded < 2 ^ 62
IsFramed (Body bytes own) = (0 < length bytes) × (length bytes < 2 ^ 62)
IsFramed End = Unit {0}

are_framed : (p : Party) (before : Option Part) (start : ℕ) (parts : List Part) → AreSent p before start parts → AllByRecursion IsFramed parts
are_framed p before start [] h = tt
are_framed p before start (Interim s ∷ parts) h = (h.1.0.has_length, are_framed p (Some (Interim s)) _ parts h.2)
are_framed p before start (Head s ∷ parts) h = (h.1.0.has_length, are_framed p (Some (Head s)) _ parts h.2)
are_framed p before start (Trailer s ∷ parts) h = (h.1.0.has_length, are_framed p (Some (Trailer s)) _ parts h.2)
are_framed p before start (Body bytes own ∷ parts) h = ((h.1.0, h.1.1), are_framed p (Some (Body bytes own)) _ parts h.2)
are_framed p before start (End ∷ parts) h = (tt, are_framed p (Some End) _ parts h.2)

all_behind : (P : Part → Type 0) (n : ℕ) (parts : List Part) → AllByRecursion P parts → AllByRecursion P (drop n parts)
all_behind P zero parts h = h
all_behind P (suc n) [] h = tt
all_behind P (suc n) (part ∷ parts) h = all_behind P n parts h.1

-- What is read at the front is what was written there.
one_read : (k kind : ℕ) (mid behind : List ℕ) → ◌≡◌ {A = Option (ℕ × List ℕ)} (Some (k, mid)) (Some (kind, behind)) → (k ≡ kind) × (mid ≡ behind)
one_read k kind mid behind e =
    let none : ℕ × List ℕ = (0, []) in
    (ap (λ o. (unwrap_or o none).0) e, ap (λ o. (unwrap_or o none).1) e)

differ : false ≡ true → ⊥
differ h = cc

-- bytes that begin as a section do say so, if they say anything that is too long
section_begins : (kinds : FrameKinds) (most : ℕ) (section bytes more behind : List ℕ) → bytes ++ more ≡ frame_encoding 1 section ++ behind → is_excessive_by kinds most bytes ≡ true → begins_section bytes ≡ true
section_begins kinds most section bytes more behind e long = elim (cases_number bytes) [
  | inl none ↦ absurd (differ (sym (none_told kinds most bytes none) ∙ long))
  | inr (k, mid, at) ↦
      let first = one_read k 1 (mid ++ more) ((encoding (length section) ++ section) ++ behind)
      (sym (reads_more k bytes mid more at) ∙ ap varint_at (e ∙ ap (λ l. l ++ behind) (append_assoc (encoding 1) (encoding (length section)) section) ∙ append_assoc (encoding 1) (encoding (length section) ++ section) behind) ∙ reads_shortest 1 ((encoding (length section) ++ section) ++ behind) (lit< tt)) in
      ap (is_of_type 1) at ∙ ap (λ x. x == 1) first.0
]

module _ (kinds : FrameKinds) (most : ℕ) (in_body : Bool) where
  -- what stands next and is too long is a section
  abbrev IsSection : List ℕ → Type 0
  IsSection bytes = is_excessive_by kinds most (skipped kinds in_body bytes) ≡ true → begins_section (skipped kinds in_body bytes) ≡ true

  section_next : (section behind bytes more : List ℕ) → length section < 2 ^ 62 → bytes ++ more ≡ frame_encoding 1 section ++ behind → is_excessive_by kinds most (skipped kinds in_body bytes) ≡ true → begins_section (skipped kinds in_body bytes) ≡ true
  section_next section behind bytes more small e long = ap begins_section all ∙ section_begins kinds most section bytes more behind e (ap (is_excessive_by kinds most) (sym all) ∙ long)
    where
      all : skipped kinds in_body bytes ≡ bytes
      all = elim (cases_lt (length bytes) (length (frame_encoding 1 section))) [
        | inl less ↦
            let front = unfinished_section kinds section bytes small less (short_front bytes more (frame_encoding 1 section) behind e (omega (arith, less))) in
            skipped_unfinished kinds in_body bytes front.0 front.1
        | inr there ↦
            let longer = long_front bytes more (frame_encoding 1 section) behind e there in
            let rest = drop (length (frame_encoding 1 section)) bytes in
            skipped_whole kinds in_body bytes (frame.Headers section) rest (ap (frame_by kinds) longer.front_is ∙ written_headers kinds section rest small) refl
      ]

  body_next : (body behind bytes more : List ℕ) → 0 < length body → length body < 2 ^ 62 → bytes ++ more ≡ frame_encoding 0 body ++ behind → is_excessive_by kinds most (skipped kinds in_body bytes) ≡ true → begins_section (skipped kinds in_body bytes) ≡ true
  body_next body behind bytes more some small e long =
      absurd (differ (sym (ap (is_excessive_by kinds most) all ∙ head_within kinds most 0 (length body) bytes more (body ++ behind) (lit< tt) small parts (ap (λ b. b && nat_lt most (length body)) (no_update kinds 0 refl))) ∙ long))
    where
      parts : bytes ++ more ≡ head_encoding 0 (length body) ++ (body ++ behind)
      parts = e ∙ append_assoc (head_encoding 0 (length body)) body behind

      all : skipped kinds in_body bytes ≡ bytes
      all = elim (cases_lt (length bytes) (length (head_encoding 0 (length body)))) [
        | inl less ↦
            let front = unfinished_data kinds (length body) bytes small less (short_front bytes more (head_encoding 0 (length body)) (body ++ behind) parts (omega (arith, less))) in
            skipped_unfinished kinds in_body bytes front.0 front.1
        | inr there ↦
            let longer = long_front bytes more (head_encoding 0 (length body)) (body ++ behind) parts there in
            let rest = drop (length (head_encoding 0 (length body))) bytes in
            skipped_whole kinds in_body bytes (frame.Data (record { 0 = length body })) rest (ap (frame_by kinds) longer.front_is ∙ data_front kinds (length body) rest small) (ne_eqb (length body) 0 (λ none. omega (arith, none, some)))
      ]

  nothing_next : (bytes more : List ℕ) → bytes ++ more ≡ [] → is_excessive_by kinds most (skipped kinds in_body bytes) ≡ true → begins_section (skipped kinds in_body bytes) ≡ true
  nothing_next [] more e long = absurd (differ (sym (none_told kinds most [] none_at_end) ∙ ap (is_excessive_by kinds most) (sym (skipped_none kinds in_body)) ∙ long))
  nothing_next (byte ∷ bytes) more e long = absurd (cc)

  front_next : (parts : List Part) (bytes more : List ℕ) → AllByRecursion IsFramed parts → bytes ++ more ≡ flat_map part_bytes parts → is_excessive_by kinds most (skipped kinds in_body bytes) ≡ true → begins_section (skipped kinds in_body bytes) ≡ true
  front_next [] bytes more framed e = nothing_next bytes more e
  front_next (Interim s ∷ parts) bytes more framed e = section_next s.encoded (flat_map part_bytes parts) bytes more framed.0 e
  front_next (Head s ∷ parts) bytes more framed e = section_next s.encoded (flat_map part_bytes parts) bytes more framed.0 e
  front_next (Trailer s ∷ parts) bytes more framed e = section_next s.encoded (flat_map part_bytes parts) bytes more framed.0 e
  front_next (Body body own ∷ parts) bytes more framed e = body_next body (flat_map part_bytes parts) bytes more framed.0.0 framed.0.1 e
  front_next (End ∷ parts) bytes more framed e = front_next parts bytes more framed.1 e

pub none_left : (n : ℕ) → nat_lt 0 n ≡ false → n ≡ 0
none_left n e = elim (cases_lt 0 n) [
  | inl some ↦ absurd (let never : true ≡ false = sym (lt-ltb 0 n some) ∙ e in cc)
  | inr none ↦ omega (arith, none)
]

-- **What its receiver finds too long is a section.**
pub flow_sections : (most : ℕ) (kinds : FrameKinds) (p : Party) (f : Flow) (i : Incoming) → IsSoundFlow p f → ReceivesFlow f i → i.fault ≡ None → i.section ≡ None → nat_lt 0 i.body_left ≡ false
    → is_excessive_by kinds most (skipped kinds (is_body i.place) (concat i.unread)) ≡ true → begins_section (skipped kinds (is_body i.place) (concat i.unread)) ≡ true
flow_sections most kinds p f i sound receives alive none whole =
    let reads = receives.reads (sym receives.fault ∙ alive) in
    let left = drop f.delivered (flow_bytes f) in
    let at : StandsBefore f 0 (next_part f) (concat i.unread ++ left) =
    subst (λ o. StandsBefore f 0 (next_part f) (section_frame o ++ concat i.unread ++ left)) none
    (subst (λ n. StandsBefore f n (next_part f) (section_frame i.section ++ concat i.unread ++ left)) (none_left i.body_left whole) reads.unread) in
    front_next kinds most (is_body i.place) (drop f.parts_out f.sent) (concat i.unread) (drop f.delivered (flow_bytes f)) (all_behind IsFramed f.parts_out f.sent (are_framed p None 0 f.sent sound.sent)) at.1
