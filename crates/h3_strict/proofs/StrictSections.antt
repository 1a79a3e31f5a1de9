-- A field section that breaks no rule is handed out by a strict receiver too, which counts on.
use Rattle.std.proofs.Common.{◌≡◌, inl, inr, ℕ, ◌+◌, Bool, true, false, List, [], Option, Some, None, refl, sym, ap, ◌∙◌, subst, take, nat_lt, if◌then◌else◌}
use Rattle.std.specs.Prelude.{not, codes, option_map, unwrap_or, ◌&&◌, ◌==◌, slice_index}
use Rattle.h3_field.specs.Field.{Field}
use Rattle.h3_field.specs.Instruction.{DecoderInstruction}
use Rattle.h3_header.specs.Head as header
use Rattle.h3_header.specs.HeadRead.{head_by}
use Rattle.h3_header.specs.Reads.{AcceptsAll, head_of_fields}
use Rattle.h3_messages.specs.Content.{asked_for, content_behind_status, content_expected, content_of_status, is_interim_status, is_without_content, may_end, said, content_of_request, until_answered}
use Rattle.h3_messages.specs.Messages.{value_of, violation_of_response}
use Rattle.h3_messages.specs.declared.content.Asked.{Asked}
use Rattle.h3_messages.specs.declared.content.Asked.TheVariants as asked
use Rattle.h3_messages.specs.declared.content.Content.{Content}
use Rattle.h3_messages.specs.declared.content.Content.TheVariants.{NoContent, Tunnel, Unsaid, Exactly, Unanswered, Exceeded}
use Rattle.h3_messages.specs.declared.violation.Violation.{Violation}
use Rattle.h3_proto.specs.declared.stream.Side.{Side}
use Rattle.h3_proto.specs.declared.stream.Side.TheVariants.{Client, Server}
use Rattle.h3_qpack.specs.DecoderState.{DecoderState}
use Rattle.h3_qpack.specs.Sizes.{last_value, told_size}
use Rattle.h3_connection.specs.Announcing.{section_of}
use Rattle.h3_connection.specs.Incoming.{Incoming, is_before_head}
use Rattle.h3_connection.specs.Pulling.{Pulled, head_or_trailer, is_client, is_interim, is_interim_text, judged, malformed, past_large, read_section, with_content}
use Rattle.h3_connection.specs.StrictMessages.{broken_rule, content_behind, content_behind_large, content_of_head, if_whole, malformation_by, response_behind, response_of_head, content_read}
use Rattle.h3_connection.specs.declared.event.Item.{Item}
use Rattle.h3_connection.specs.declared.event.Item.TheVariants as item
use Rattle.h3_connection.specs.declared.event.Malformation.{Malformation}
use Rattle.h3_connection.specs.declared.event.Malformation.TheVariants as malformation
use Rattle.h3_connection.specs.declared.event.Pull.TheVariants as pull
use Rattle.h3_connection.specs.declared.place.Place.TheVariants.{AfterTrailer, BeforeHead, InBody}
use Rattle.h3_connection.specs.declared.setup.Announced.{Announced}
use Rattle.h3_world.specs.Flow.{Flow, Part, Section}
use Rattle.h3_world.specs.Flow.Part.{Head, Interim, Trailer}
use Rattle.h3_world.specs.Items.{after_item}
use Rattle.h3_world.specs.Order.{next_part}
use Rattle.h3_world.specs.Setup.{takes_any}
use Rattle.h3_headline.specs.Cited.{ListsAreTheirValue}
use Rattle.h3_headline.specs.PulledSectionLaws.{head_part, interim_part, trailer_part}
use Rattle.h3_headline.specs.Pulling.{IsSectionPart, behind_section}
use Rattle.h3_headline.specs.Standing.{IsReadableBy, place_after}
use Rattle.h3_headline.specs.StatusLaws.{interim_by_last}
use Rattle.h3_strict.proofs.OneStatus.{one_status}
use Rattle.h3_strict.proofs.UnbrokenLaws.{along_next, ends_too, next_within}
use Rattle.h3_strict.specs.StrictPull.{Counting, PullsOn, response_by, response_of_part}
use Rattle.h3_strict.specs.Unbroken.{CountsAlong, IsAwaited, IsUnbroken, SaysNoMore, begun, content_along}

pub either : {X : Type 0} (P : X → Type 0) (b : Bool) (x y : X) → P x → P y → P (if b then x else y)
either P true x y p q = p
either P false x y p q = q

-- What a response says that is too large is known by its last status: as much, or nothing of its length.
status_says : (status size : List ℕ) → SaysNoMore (content_of_status status []) (content_of_status status size)
status_says status size = by_test (is_without_content status)
  where
    by_test : (b : Bool) → SaysNoMore (if b then NoContent else said []) (if b then NoContent else said size)
    by_test true = inl refl
    by_test false = inr (inl refl)

expected_says : (a : Asked) (status size : List ℕ) → SaysNoMore (content_expected a status []) (content_expected a status size)
expected_says asked.Head status size = inl refl
expected_says asked.Other status size = status_says status size
expected_says asked.Connect status size = by_test (slice_index status 0 == 50)
  where
    by_test : (b : Bool) → SaysNoMore (if b then Tunnel else content_of_status status []) (if b then Tunnel else content_of_status status size)
    by_test true = inl refl
    by_test false = status_says status size

pub behind_says : (content : Content) (status size : List ℕ) → SaysNoMore (content_behind_status content status []) (content_behind_status content status size)
behind_says content status size = by_test (is_interim_status status)
  where
    by_test : (b : Bool) → SaysNoMore (if b then content else content_expected (asked_for content) status []) (if b then content else content_expected (asked_for content) status size)
    by_test true = inl refl
    by_test false = expected_says (asked_for content) status size

-- a server that reads CONNECT has not answered it
until_says : (content : Content) → SaysNoMore (until_answered content) content
until_says Tunnel = inr (inr (refl, refl))
until_says Unsaid = inl refl
until_says (Exactly size) = inl refl
until_says NoContent = inl refl
until_says Unanswered = inl refl
until_says Exceeded = inl refl

read_says : (side : Side) (awaited : Content) (fields : List Field) → SaysNoMore (content_read side awaited fields) (content_of_head side awaited fields)
read_says Client awaited fields = inl refl
read_says Server awaited fields = until_says (content_of_request fields)

-- an interim status leaves what was awaited
interim_stays : (content : Content) (status size : List ℕ) → is_interim_status status ≡ true → content_behind_status content status size ≡ content
interim_stays content status size is = ap (λ b. if b then content else content_expected (asked_for content) status size) is

no_violation : (v : Option Violation) → option_map malformation_by v ≡ None → v ≡ None
no_violation None e = refl
no_violation (Some v) e = absurd (cc)

-- a client that asks for strict messages judges a response by its rules
response_rules : (own : Announced) (fields : List Field) → own.choices.strict_messages ≡ true → broken_rule Client own BeforeHead fields ≡ None → violation_of_response fields ≡ None
response_rules own fields strict none =
    no_violation (violation_of_response fields)
    (sym (ap (λ b. let rule : Option Malformation = if b then option_map malformation_by (violation_of_response fields) else None in rule) strict) ∙ none)

in_front : {X : Type 0} → InBody ≡ BeforeHead → X
in_front e = let k : false ≡ true = ap is_before_head e in absurd (cc)

behind : {X : Type 0} → AfterTrailer ≡ BeforeHead → X
behind e = let k : false ≡ true = ap is_before_head e in absurd (cc)

none_broken : (content : Content) (broken : Option Malformation) → may_end content ≡ true → broken ≡ None → if_whole content broken ≡ None
none_broken what broken ends none = ap (λ b. if b then broken else Some malformation.ContentLength) ends ∙ none

awaited_ends : (side : Side) (content : Content) → IsAwaited side content → may_end content ≡ true
awaited_ends Client what h = h
awaited_ends Server what h = ap may_end h

module _ (lists : ListsAreTheirValue) (side : Side) (own : Announced) (id : ℕ) (r : DecoderState) (strict : own.choices.strict_messages ≡ true) (awaited : Content) (known : Option Content) where
  item_good : (f : Flow) (kind : header.Head → Item) (s : Section) (part : Part) → IsSectionPart kind s part → next_part f ≡ Some part → (i : Item) (j : Incoming) (replies : List DecoderInstruction) → j.body_left ≡ 0
      → CountsAlong side awaited f.sent (f.parts_out + 1) 0 j.content → j.response ≡ response_by i side (Some part) known → PullsOn side awaited known f (record { answer = pull.Item i; incoming = j; replies = replies })
  item_good f kind s part is next i j replies none counts responds =
      let after : after_item f (next_part f) i ≡ behind_section f = ap (λ o. after_item f o i) next ∙ is.after f i in
      record {
        judges_not = refl;
        counts = subst (λ (g : Flow). CountsAlong side awaited g.sent g.parts_out j.body_left j.content) (sym after)
            (subst (λ n. CountsAlong side awaited f.sent (f.parts_out + 1) n j.content) (sym none) counts);
        responds = responds ∙ ap (λ o. response_by i side o known) (sym next);
      }

  -- What has to be known of a section that is read: its rule, what it leaves of the content where it is whole and where it is too large, and that
  -- it is handed out.
  pub record Reads (f : Flow) (s : Section) (x : Incoming) (replies : List DecoderInstruction) : Type 0 where
    rule : if_whole x.content (broken_rule side own x.place s.fields) ≡ None
    whole : CountsAlong side awaited f.sent (f.parts_out + 1) 0 (content_behind side x.place x.content s.fields)
    large : CountsAlong side awaited f.sent (f.parts_out + 1) 0 (content_behind_large side x.place x.content (last_value (codes ":status") s.fields))
    known_is : x.response ≡ known
    out : (y : Incoming) → y.body_left ≡ 0 → CountsAlong side awaited f.sent (f.parts_out + 1) 0 y.content → y.response ≡ response_behind side x.place x.response s.fields → PullsOn side awaited known f (head_or_trailer side id y replies None x.place (head_of_fields s.fields))

  pub read_good : (f : Flow) (kind : header.Head → Item) (s : Section) (part : Part) (x : Incoming) (replies : List DecoderInstruction) → IsSectionPart kind s part → next_part f ≡ Some part → AcceptsAll (takes_any own) (header.trailer_head []) s.fields → x.body_left ≡ 0
      → Reads f s x replies → PullsOn side awaited known f (read_section side own id r x replies s.fields)
  read_good f kind s part x replies is next back none h =
      let status = last_value (codes ":status") s.fields in
      let y = with_content side own x s.fields in
      either (PullsOn side awaited known f) (nat_lt (section_of own) (told_size s.fields)) _ _
      (item_good f kind s part is next (item.TooLarge (told_size s.fields)) (past_large side own x s.fields) replies none
      (subst (λ b. CountsAlong side awaited f.sent (f.parts_out + 1) 0 (if b then content_behind_large side x.place x.content status else x.content)) (sym strict) h.large) h.known_is)
      (subst (PullsOn side awaited known f)
      (sym (ap (λ b. judged side id y replies b (head_by own.choices.extensions.any_protocol s.fields)) h.rule ∙ ap (judged side id y replies None) (lists own.choices.extensions.any_protocol s.fields (head_of_fields s.fields) (back, refl))))
      (h.out y none (subst (λ b. CountsAlong side awaited f.sent (f.parts_out + 1) 0 (if b then content_behind side x.place x.content s.fields else x.content)) (sym strict) h.whole) (ap (λ b. if b then response_behind side x.place x.response s.fields else x.response) strict)))

  client_is : (d : Side) → is_client d ≡ true → d ≡ Client
  client_is Client e = refl
  client_is Server e = absurd (cc)

  -- A final head.
  pub head_reads : (f : Flow) (s : Section) (x : Incoming) (replies : List DecoderInstruction) → next_part f ≡ Some (Head s) → place_after (take f.parts_out f.sent) ≡ BeforeHead → place_after (take (f.parts_out + 1) f.sent) ≡ InBody
      → IsReadableBy true side (Head s) → IsUnbroken side own (content_along side awaited (take f.parts_out f.sent)) (Head s) → x.place ≡ BeforeHead → x.body_left ≡ 0
      → Counting side awaited known f x → Reads f s x replies
  head_reads f s x replies next place behind readable unbroken at none counts =
      let said = content_along side awaited (take f.parts_out f.sent) in
      let same : x.content ≡ said = counts.counts.before place in
      let more : content_along side awaited (take (f.parts_out + 1) f.sent) ≡ content_of_head side said s.fields = along_next side awaited f.sent f.parts_out (Head s) next in
      record {
        rule = none_broken x.content (broken_rule side own x.place s.fields) (ap may_end same ∙ awaited_ends side said unbroken.1) (ap (λ p. broken_rule side own p s.fields) at ∙ unbroken.0);
        whole = record {
          before = λ e. in_front (sym behind ∙ e);
          counts = subst (λ c. SaysNoMore c (content_along side awaited (take (f.parts_out + 1) f.sent))) (sym (ap (λ p. content_behind side p x.content s.fields) at ∙ ap (λ c. content_read side c s.fields) same))
              (subst (SaysNoMore (content_read side said s.fields)) (sym more) (read_says side said s.fields));
          within = next_within f.sent f.parts_out (Head s) next;
        };
        large = record {
          before = λ e. in_front (sym behind ∙ e);
          counts = subst (SaysNoMore (content_behind_large side x.place x.content (last_value (codes ":status") s.fields))) (sym more)
              (subst (λ p. SaysNoMore (content_behind_large side p x.content (last_value (codes ":status") s.fields)) (content_of_head side said s.fields)) (sym at)
              (subst (λ c. SaysNoMore (content_behind_large side BeforeHead c (last_value (codes ":status") s.fields)) (content_of_head side said s.fields)) (sym same)
              (large_head side refl said unbroken)));
          within = next_within f.sent f.parts_out (Head s) next;
        };
        known_is = counts.response;
        out = λ y zero good responds. subst (λ p. PullsOn side awaited known f (head_or_trailer side id y replies None p (head_of_fields s.fields))) (sym at)
            (subst (PullsOn side awaited known f)
            (sym (ap (λ b. if not b then malformed id malformation.WrongSide y replies else (if is_client side && is_interim (head_of_fields s.fields).status then item_at (item.Interim (head_of_fields s.fields)) y else item_at (item.Head (head_of_fields s.fields)) (record y { place = InBody }))) readable.0
            ∙ ap (λ b. if b then item_at (item.Interim (head_of_fields s.fields)) y else item_at (item.Head (head_of_fields s.fields)) (record y { place = InBody })) readable.1))
            (item_good f item.Head s (Head s) (head_part s) next (item.Head (head_of_fields s.fields)) (record y { place = InBody }) replies zero good
            (responds ∙ ap (λ p. response_behind side p x.response s.fields) at ∙ ap (λ o. response_of_head side o s.fields) counts.response ∙ head_asks side)));
      }
    where
      item_at : Item → Incoming → Pulled
      item_at i y = record { answer = pull.Item i; incoming = y; replies = replies }

      head_asks : (d : Side) → response_of_head d known s.fields ≡ response_of_part d (Some (Head s)) known
      head_asks Client = refl
      head_asks Server = refl

      large_head : (d : Side) → side ≡ d → (said : Content) → IsUnbroken d own said (Head s) → SaysNoMore (content_behind_large d BeforeHead said (last_value (codes ":status") s.fields)) (content_of_head d said s.fields)
      large_head Server is said h = inr (inl h.1)
      large_head Client is said h =
          subst (λ o. SaysNoMore (content_behind_status said (unwrap_or o []) []) (content_of_head Client said s.fields)) (sym (one_status s.fields (response_rules own s.fields strict h.0)))
          (behind_says said (value_of (codes ":status") s.fields) (value_of (codes "content-length") s.fields))

  -- An interim head.
  pub interim_reads : (f : Flow) (s : Section) (x : Incoming) (replies : List DecoderInstruction) → next_part f ≡ Some (Interim s) → place_after (take f.parts_out f.sent) ≡ BeforeHead
      → IsReadableBy true side (Interim s) → IsUnbroken side own (content_along side awaited (take f.parts_out f.sent)) (Interim s) → x.place ≡ BeforeHead → x.body_left ≡ 0
      → Counting side awaited known f x → Reads f s x replies
  interim_reads f s x replies next place readable unbroken at none counts =
      let said = content_along side awaited (take f.parts_out f.sent) in
      let same : x.content ≡ said = counts.counts.before place in
      let more : content_along side awaited (take (f.parts_out + 1) f.sent) ≡ said = along_next side awaited f.sent f.parts_out (Interim s) next in
      let stays = same ∙ sym more in
      let is : side ≡ Client = client_is side readable.0 in
      let last = one_status s.fields (response_rules own s.fields strict (subst (λ d. broken_rule d own BeforeHead s.fields ≡ None) is unbroken.0)) in
      let text : is_interim_text (last_value (codes ":status") s.fields) ≡ true = interim_by_last true s.fields readable.3 ∙ readable.2 in
      let status : is_interim_status (value_of (codes ":status") s.fields) ≡ true = sym (ap is_interim_text last) ∙ text in
      let whole_is : content_behind side x.place x.content s.fields ≡ x.content =
      ap (λ p. content_behind side p x.content s.fields) at ∙ ap (λ d. content_read d x.content s.fields) is ∙ interim_stays x.content (value_of (codes ":status") s.fields) (value_of (codes "content-length") s.fields) status in
      let large_is : content_behind_large side x.place x.content (last_value (codes ":status") s.fields) ≡ x.content =
      ap (λ p. content_behind_large side p x.content (last_value (codes ":status") s.fields)) at ∙ ap (λ d. content_behind_large d BeforeHead x.content (last_value (codes ":status") s.fields)) is
      ∙ ap (λ o. content_behind_status x.content (unwrap_or o []) []) last ∙ interim_stays x.content (value_of (codes ":status") s.fields) [] status in
      record {
        rule = none_broken x.content (broken_rule side own x.place s.fields) (ap may_end same ∙ awaited_ends side said unbroken.1) (ap (λ p. broken_rule side own p s.fields) at ∙ unbroken.0);
        whole = record { before = λ e. whole_is ∙ stays; counts = inl (whole_is ∙ stays); within = next_within f.sent f.parts_out (Interim s) next };
        large = record { before = λ e. large_is ∙ stays; counts = inl (large_is ∙ stays); within = next_within f.sent f.parts_out (Interim s) next };
        known_is = counts.response;
        out = λ y zero good responds. subst (λ p. PullsOn side awaited known f (head_or_trailer side id y replies None p (head_of_fields s.fields))) (sym at)
            (subst (PullsOn side awaited known f)
            (sym (ap (λ b. if not b then malformed id malformation.WrongSide y replies else (if is_client side && is_interim (head_of_fields s.fields).status then item_at (item.Interim (head_of_fields s.fields)) y else item_at (item.Head (head_of_fields s.fields)) (record y { place = InBody }))) readable.1
            ∙ ap (λ b. if b && is_interim (head_of_fields s.fields).status then item_at (item.Interim (head_of_fields s.fields)) y else item_at (item.Head (head_of_fields s.fields)) (record y { place = InBody })) readable.0
            ∙ ap (λ b. if b then item_at (item.Interim (head_of_fields s.fields)) y else item_at (item.Head (head_of_fields s.fields)) (record y { place = InBody })) readable.2))
            (item_good f item.Interim s (Interim s) (interim_part s) next (item.Interim (head_of_fields s.fields)) y replies zero good
            (responds ∙ ap (λ p. response_behind side p x.response s.fields) at ∙ ap (λ d. response_of_head d x.response s.fields) is ∙ counts.response)));
      }
    where
      item_at : Item → Incoming → Pulled
      item_at i y = record { answer = pull.Item i; incoming = y; replies = replies }

  -- A trailer.
  pub trailer_reads : (f : Flow) (s : Section) (x : Incoming) (replies : List DecoderInstruction) → next_part f ≡ Some (Trailer s) → place_after (take (f.parts_out + 1) f.sent) ≡ AfterTrailer
      → IsReadableBy true side (Trailer s) → IsUnbroken side own (content_along side awaited (take f.parts_out f.sent)) (Trailer s) → x.place ≡ InBody → x.body_left ≡ 0
      → Counting side awaited known f x → Reads f s x replies
  trailer_reads f s x replies next after readable unbroken at none counts =
      let said = content_along side awaited (take f.parts_out f.sent) in
      let says : SaysNoMore x.content said = subst (λ n. SaysNoMore x.content (content_along side awaited (take (begun f.parts_out n) f.sent))) none counts.counts.counts in
      let more : content_along side awaited (take (f.parts_out + 1) f.sent) ≡ said = along_next side awaited f.sent f.parts_out (Trailer s) next in
      let stays : SaysNoMore x.content (content_along side awaited (take (f.parts_out + 1) f.sent)) = subst (SaysNoMore x.content) (sym more) says in
      let whole_is : content_behind side x.place x.content s.fields ≡ x.content = ap (λ p. content_behind side p x.content s.fields) at in
      let large_is : content_behind_large side x.place x.content (last_value (codes ":status") s.fields) ≡ x.content =
      ap (λ p. content_behind_large side p x.content (last_value (codes ":status") s.fields)) at ∙ by_side side in
      record {
        rule = none_broken x.content (broken_rule side own x.place s.fields) (ends_too x.content said says unbroken.2) (ap (λ p. broken_rule side own p s.fields) at ∙ unbroken.0);
        whole = record { before = λ e. behind (sym after ∙ e); counts = subst (λ c. SaysNoMore c (content_along side awaited (take (f.parts_out + 1) f.sent))) (sym whole_is) stays; within = next_within f.sent f.parts_out (Trailer s) next };
        large = record { before = λ e. behind (sym after ∙ e); counts = subst (λ c. SaysNoMore c (content_along side awaited (take (f.parts_out + 1) f.sent))) (sym large_is) stays; within = next_within f.sent f.parts_out (Trailer s) next };
        known_is = counts.response;
        out = λ y zero good responds. subst (λ p. PullsOn side awaited known f (head_or_trailer side id y replies None p (head_of_fields s.fields))) (sym at)
            (subst (PullsOn side awaited known f)
            (sym (ap (λ b. if b then malformed id malformation.PseudoInTrailer y replies else item_at (item.Trailer (head_of_fields s.fields)) (record y { place = AfterTrailer })) readable.0))
            (item_good f item.Trailer s (Trailer s) (trailer_part s) next (item.Trailer (head_of_fields s.fields)) (record y { place = AfterTrailer }) replies zero good
            (responds ∙ ap (λ p. response_behind side p x.response s.fields) at ∙ counts.response)));
      }
    where
      item_at : Item → Incoming → Pulled
      item_at i y = record { answer = pull.Item i; incoming = y; replies = replies }

      by_side : (d : Side) → content_behind_large d InBody x.content (last_value (codes ":status") s.fields) ≡ x.content
      by_side Client = refl
      by_side Server = refl
