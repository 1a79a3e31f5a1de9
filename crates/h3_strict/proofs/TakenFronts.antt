-- Where its reader takes each section that was sent, what came of a flow begins with no frame that is too long.
use Rattle.std.proofs.Common.{◌≡◌, ◌⊎◌, inl, inr, ℕ, zero, suc, ◌^◌, ◌<◌, ◌≤◌, lit<, Bool, true, false, List, [], ◌∷◌, ◌++◌, Option, Some, None, refl, sym, ap, ◌∙◌, subst, drop, length, nat_lt, arith, append_assoc}
use Rattle.std.specs.Prelude.{◌&&◌, ◌||◌, unwrap_or}
use Rattle.std.specs.List.{AllByRecursion, concat, flat_map}
use Rattle.std.proofs.lemmas.Bool.{and_right, cases_lt, le-ltb, lt-ltb, ne_eqb}
use Rattle.h3_coding.specs.Encodings.{encoding}
use Rattle.h3_coding.specs.Varint.{varint_at}
use Rattle.h3_coding.specs.VarintLaws.{cases_number, none_at_end, reads_more, reads_shortest}
use Rattle.h3_proto.specs.Config.{is_limit}
use Rattle.h3_frames.specs.Encoded.{frame_encoding, head_encoding}
use Rattle.h3_frames.specs.EncodedLaws.{written_headers}
use Rattle.h3_frames.specs.ExcessiveFrames.{is_excessive_by, is_kept_whole}
use Rattle.h3_frames.specs.ExcessiveLaws.{begun_told, none_excessive_by, none_told, said_of}
use Rattle.h3_frames.specs.FrameLaws.{no_update}
use Rattle.h3_frames.specs.Frames.{frame_by, is_update}
use Rattle.h3_frames.specs.declared.proto.frame.Frame.TheVariants as frame
use Rattle.h3_connection.specs.Incoming.{Incoming, is_body}
use Rattle.h3_connection.specs.Skipping.{skipped}
use Rattle.h3_world.specs.Flow.{Flow, Part, flow_bytes, part_bytes}
use Rattle.h3_world.specs.Flow.Part.{Body, End, Head, Interim, Trailer}
use Rattle.h3_world.specs.Order.{next_part}
use Rattle.h3_world.specs.Sound.{AreSent, IsSoundFlow}
use Rattle.h3_world.specs.World.{Party}
use Rattle.h3_headline.specs.FrontLaws.{data_front, long_front, short_front, skipped_none, skipped_unfinished, skipped_whole, unfinished_data, unfinished_section}
use Rattle.h3_headline.specs.Standing.{ReceivesFlow, StandsBefore, section_frame}
use Rattle.h3_strict.proofs.LimitPulls.{LooksWithin}
use Rattle.h3_frames.specs.declared.frame.kinds.FrameKinds.{FrameKinds}

-- the part's section is no longer than its reader takes
abbrev pub PartTaken : ℕ → Part → Type 0
PartTaken most (Interim s) = is_limit most ≡ true → length s.encoded ≤ most
PartTaken most (Head s) = is_limit most ≡ true → length s.encoded ≤ most
PartTaken most (Trailer s) = is_limit most ≡ true → length s.encoded ≤ most
PartTaken most (Body bytes own) = Unit {0}
PartTaken most End = Unit {0}

abbrev pub PartsTaken : ℕ → List Part → Type 0
PartsTaken most parts = AllByRecursion (PartTaken most) parts

-- a frame has a length, and no piece of a body is empty
abbrev IsFramed : Part → Type 0
IsFramed (Interim s) = length s.encoded < 2 ^ 62
IsFramed (Head s) = length s.encoded < 2 ^ 62
IsFramed (Trailer s) = length s.encoded < 2 ^ 62
IsFramed (Body bytes own) = (0 < length bytes) × (length bytes < 2 ^ 62)
IsFramed End = Unit {0}

are_framed : (p : Party) (before : Option Part) (start : ℕ) (parts : List Part) → AreSent p before start parts → AllByRecursion IsFramed parts
are_framed p before start [] h = tt
are_framed p before start (Interim s ∷ parts) h = (h.1.0.has_length, are_framed p (Some (Interim s)) _ parts h.2)
are_framed p before start (Head s ∷ parts) h = (h.1.0.has_length, are_framed p (Some (Head s)) _ parts h.2)
are_framed p before start (Trailer s ∷ parts) h = (h.1.0.has_length, are_framed p (Some (Trailer s)) _ parts h.2)
are_framed p before start (Body bytes own ∷ parts) h = ((h.1.0, h.1.1), are_framed p (Some (Body bytes own)) _ parts h.2)
are_framed p before start (End ∷ parts) h = (tt, are_framed p (Some End) _ parts h.2)

all_behind : (P : Part → Type 0) (n : ℕ) (parts : List Part) → AllByRecursion P parts → AllByRecursion P (drop n parts)
all_behind P zero parts h = h
all_behind P (suc n) [] h = tt
all_behind P (suc n) (part ∷ parts) h = all_behind P n parts h.1

-- What is read at the front is what was written there.
one_read : (k kind : ℕ) (mid behind : List ℕ) → ◌≡◌ {A = Option (ℕ × List ℕ)} (Some (k, mid)) (Some (kind, behind)) → (k ≡ kind) × (mid ≡ behind)
one_read k kind mid behind e =
    let none : ℕ × List ℕ = (0, []) in
    (ap (λ o. (unwrap_or o none).0) e, ap (λ o. (unwrap_or o none).1) e)

pub head_within : (kinds : FrameKinds) (most kind number : ℕ) (bytes more behind : List ℕ) → kind < 2 ^ 62 → number < 2 ^ 62 → bytes ++ more ≡ head_encoding kind number ++ behind → ((is_kept_whole kind || is_update kinds kind) && nat_lt most number) ≡ false
    → is_excessive_by kinds most bytes ≡ false
head_within kinds most kind number bytes more behind small few e within = elim (cases_number bytes) [
  | inl none ↦ none_told kinds most bytes none
  | inr (k, mid, at) ↦ by_number k mid at (cases_number mid)
]
  where
    by_number : (k : ℕ) (mid : List ℕ) → varint_at bytes ≡ Some (k, mid) → (varint_at mid ≡ None) ⊎ ((v : ℕ) × (rest : List ℕ) × (varint_at mid ≡ Some (v, rest))) → is_excessive_by kinds most bytes ≡ false
    by_number k mid at (inl none) = begun_told kinds most k bytes mid at none
    by_number k mid at (inr (n, rest, there)) =
        let first = one_read k kind (mid ++ more) (encoding number ++ behind)
        (sym (reads_more k bytes mid more at) ∙ ap varint_at (e ∙ append_assoc (encoding kind) (encoding number) behind) ∙ reads_shortest kind (encoding number ++ behind) small) in
        let second = one_read n number (rest ++ more) behind (sym (reads_more n mid rest more there) ∙ ap varint_at first.1 ∙ reads_shortest number behind few) in
        said_of kinds most k n bytes mid rest at there
        ∙ ap (λ x. is_limit most && ((is_kept_whole x || is_update kinds x) && nat_lt most n)) first.0
        ∙ ap (λ x. is_limit most && ((is_kept_whole kind || is_update kinds kind) && nat_lt most x)) second.0
        ∙ and_right (is_limit most) ((is_kept_whole kind || is_update kinds kind) && nat_lt most number) within

module _ (kinds : FrameKinds) (most : ℕ) (in_body : Bool) where
  abbrev IsWithin : List ℕ → Type 0
  IsWithin bytes = is_excessive_by kinds most (skipped kinds in_body bytes) ≡ false

  section_within : (section behind bytes more : List ℕ) → (is_limit most ≡ true → length section ≤ most) → length section < 2 ^ 62 → bytes ++ more ≡ frame_encoding 1 section ++ behind → IsWithin bytes
  section_within section behind bytes more taken small e = by_limit (is_limit most) refl
    where
      all : skipped kinds in_body bytes ≡ bytes
      all = elim (cases_lt (length bytes) (length (frame_encoding 1 section))) [
        | inl less ↦
            let front = unfinished_section kinds section bytes small less (short_front bytes more (frame_encoding 1 section) behind e (omega (arith, less))) in
            skipped_unfinished kinds in_body bytes front.0 front.1
        | inr there ↦
            let longer = long_front bytes more (frame_encoding 1 section) behind e there in
            let rest = drop (length (frame_encoding 1 section)) bytes in
            skipped_whole kinds in_body bytes (frame.Headers section) rest (ap (frame_by kinds) longer.front_is ∙ written_headers kinds section rest small) refl
      ]

      by_limit : (b : Bool) → is_limit most ≡ b → IsWithin bytes
      by_limit false none = none_excessive_by kinds most (skipped kinds in_body bytes) none
      by_limit true limited =
          ap (is_excessive_by kinds most) all
          ∙ head_within kinds most 1 (length section) bytes more (section ++ behind) (lit< tt) small (e ∙ append_assoc (head_encoding 1 (length section)) section behind) (le-ltb most (length section) (taken limited))

  body_within : (body behind bytes more : List ℕ) → 0 < length body → length body < 2 ^ 62 → bytes ++ more ≡ frame_encoding 0 body ++ behind → IsWithin bytes
  body_within body behind bytes more some small e =
      ap (is_excessive_by kinds most) all ∙ head_within kinds most 0 (length body) bytes more (body ++ behind) (lit< tt) small parts (ap (λ b. b && nat_lt most (length body)) (no_update kinds 0 refl))
    where
      parts : bytes ++ more ≡ head_encoding 0 (length body) ++ (body ++ behind)
      parts = e ∙ append_assoc (head_encoding 0 (length body)) body behind

      all : skipped kinds in_body bytes ≡ bytes
      all = elim (cases_lt (length bytes) (length (head_encoding 0 (length body)))) [
        | inl less ↦
            let front = unfinished_data kinds (length body) bytes small less (short_front bytes more (head_encoding 0 (length body)) (body ++ behind) parts (omega (arith, less))) in
            skipped_unfinished kinds in_body bytes front.0 front.1
        | inr there ↦
            let longer = long_front bytes more (head_encoding 0 (length body)) (body ++ behind) parts there in
            let rest = drop (length (head_encoding 0 (length body))) bytes in
            skipped_whole kinds in_body bytes (frame.Data (record { 0 = length body })) rest (ap (frame_by kinds) longer.front_is ∙ data_front kinds (length body) rest small) (ne_eqb (length body) 0 (λ none. omega (arith, none, some)))
      ]

  nothing_within : (bytes more : List ℕ) → bytes ++ more ≡ [] → IsWithin bytes
  nothing_within [] more e = ap (is_excessive_by kinds most) (skipped_none kinds in_body) ∙ none_told kinds most [] none_at_end
  nothing_within (byte ∷ bytes) more e = absurd (cc)

  front_within : (parts : List Part) (bytes more : List ℕ) → PartsTaken most parts → AllByRecursion IsFramed parts → bytes ++ more ≡ flat_map part_bytes parts → IsWithin bytes
  front_within [] bytes more taken framed e = nothing_within bytes more e
  front_within (Interim s ∷ parts) bytes more taken framed e = section_within s.encoded (flat_map part_bytes parts) bytes more taken.0 framed.0 e
  front_within (Head s ∷ parts) bytes more taken framed e = section_within s.encoded (flat_map part_bytes parts) bytes more taken.0 framed.0 e
  front_within (Trailer s ∷ parts) bytes more taken framed e = section_within s.encoded (flat_map part_bytes parts) bytes more taken.0 framed.0 e
  front_within (Body body own ∷ parts) bytes more taken framed e = body_within body (flat_map part_bytes parts) bytes more framed.0.0 framed.0.1 e
  front_within (End ∷ parts) bytes more taken framed e = front_within parts bytes more taken.1 framed.1 e

none_left : (n : ℕ) → nat_lt 0 n ≡ false → n ≡ 0
none_left n e = elim (cases_lt 0 n) [
  | inl some ↦ absurd (let never : true ≡ false = sym (lt-ltb 0 n some) ∙ e in cc)
  | inr none ↦ omega (arith, none)
]

-- **The receiver of such a flow finds no frame too long.**
pub flow_within : (most : ℕ) (p : Party) (f : Flow) (i : Incoming) → IsSoundFlow p f → PartsTaken most f.sent → ReceivesFlow f i → LooksWithin most i
flow_within most p f i sound taken receives alive more none whole kinds =
    let reads = receives.reads (sym receives.fault ∙ alive) in
    let left = drop f.delivered (flow_bytes f) in
    let at : StandsBefore f 0 (next_part f) (concat i.unread ++ left) =
    subst (λ o. StandsBefore f 0 (next_part f) (section_frame o ++ concat i.unread ++ left)) none
    (subst (λ n. StandsBefore f n (next_part f) (section_frame i.section ++ concat i.unread ++ left)) (none_left i.body_left whole) reads.unread) in
    front_within kinds most (is_body i.place) (drop f.parts_out f.sent) (concat i.unread) (drop f.delivered (flow_bytes f)) (all_behind (PartTaken most) f.parts_out f.sent taken)
    (all_behind IsFramed f.parts_out f.sent (are_framed p None 0 f.sent sound.sent)) at.1
