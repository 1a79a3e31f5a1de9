-- What the decoder makes of the section that is next, by the session of its sender's direction.
use Rattle.std.proofs.Common.{◌≡◌, List, ◌∷◌, ℕ, Bool, true, false, [], refl, ap, ◌∙◌, subst, if◌then◌else◌, Some, sym, None, ◌+◌, drop, Option}
use Rattle.h3_world.specs.Following.{EncodedSection, undecoded, sections_on, as_encoded, sections_left, HasSession, sections_in}
use Rattle.std.specs.Prelude.{MatchOption, ◌==◌, map, filter, is_some, nat_le}
use Rattle.h3_field.specs.Secret.{guarded}
use Rattle.h3_qpack.specs.Session.{UndecodedSection, oldest, is_canceled}
use Rattle.h3_qpack.specs.DecodedSection.{Fields, Missing, decode_section}
use Rattle.h3_qpack.specs.DecoderState.{DecoderState}
use Rattle.h3_qpack.specs.Encodings.{IsWritten, IsDecoderAt}
use Rattle.h3_proto.specs.declared.stream.Side.{Side}
use Rattle.h3_world.specs.Flow.{Section, Part, Flow}
use Rattle.h3_world.specs.World.{World, party, Party}
use Rattle.h3_world.specs.Came.{insertions_came}
use Rattle.h3_world.specs.Streams.{flow}
use Rattle.h3_connection.specs.declared.setup.Announced.{Announced}
use Rattle.h3_world.specs.Flow.Part.{Interim, Head, Body, Trailer, End}
use Rattle.h3_world.specs.Order.{next_part}
use Rattle.h3_world.specs.Setup.{Setup, announced_at, flags_secrets, takes_any}
use Rattle.h3_world.specs.Sound.{IsSoundFlow}
use Rattle.std.specs.List.{AllByRecursion}
use Rattle.h3_headline.specs.Cited.{ListsAreTheirValue}
use Rattle.h3_headline.specs.Decoding.{IsOldest, SectionsHaveValues}
use Rattle.h3_headline.specs.FlowLaws.{same_number}
use Rattle.h3_headline.specs.PartLaws.{part_at, part_is}
use Rattle.h3_headline.specs.Pulling.{DecodesNext, DecodesNextAs, IsReadableNext, tried_as}
use Rattle.h3_headline.specs.Standing.{IsReadableBy}

first_of : (x y : EncodedSection) (xs ys : List EncodedSection) → ◌≡◌ {A = List EncodedSection} (x ∷ xs) (y ∷ ys) → x ≡ y
first_of x y xs ys e = cc

pub oldest_there : (id : ℕ) (first : EncodedSection) (rest : List EncodedSection) (bs : List UndecodedSection) → sections_on id bs ≡ first ∷ rest → IsOldest id first bs
oldest_there id first rest [] e = cc
oldest_there id first rest (b ∷ bs) e = by_test (oldest_there id first rest bs) (b.stream == id) refl e
  where
    by_test : (sections_on id bs ≡ first ∷ rest → IsOldest id first bs) → (t : Bool) → (b.stream == id) ≡ t
        → map undecoded (if t then b ∷ filter (λ b. b.stream == id) bs else filter (λ b. b.stream == id) bs) ≡ first ∷ rest → IsOldest id first (b ∷ bs)
    by_test later true is e =
        record {
          b = b;
          oldest_is = ap (λ t. if t then Some b else oldest id bs) is;
          stream = same_number b.stream id is;
          is = first_of (undecoded b) first (sections_on id bs) rest e;
        }
    by_test later false is e =
        let r = later e in
        record { b = r.b; oldest_is = ap (λ t. if t then Some b else oldest id bs) is ∙ r.oldest_is; stream = r.stream; is = r.is }

-- what holds of each section does of the oldest one of a stream
oldest_has : (P : UndecodedSection → Type 0) (stream : ℕ) (bs : List UndecodedSection) (b : UndecodedSection) → AllByRecursion P bs → oldest stream bs ≡ Some b → P b
oldest_has P stream [] b all e = cc
oldest_has P stream (x ∷ bs) b all e = by_test (oldest_has P stream bs b all.1) (x.stream == stream) e
  where
    by_test : (oldest stream bs ≡ Some b → P b) → (t : Bool) → ◌≡◌ {A = Option UndecodedSection} (if t then Some x else oldest stream bs) (Some b) → P b
    by_test later true is = subst (λ o. MatchOption o (Unit {0}) P) is all.0
    by_test later false is = later is

-- a section that is next on its stream
pub section_decodes : (values : SectionsHaveValues) (setup : Setup) (w : World) (writer : Side) (id announced : ℕ) (r : DecoderState) (h : HasSession setup w writer) → (flow w writer id).fault ≡ None
    → IsDecoderAt announced h.session r → ((b : UndecodedSection) → oldest b.stream h.session.sections ≡ Some b → is_canceled h.session b.stream ≡ false → IsWritten h.session b)
    → (s : Section) (rest : List EncodedSection) → sections_left (flow w writer id) ≡ as_encoded s ∷ rest
    → decode_section r s.encoded ≡ tried_as (flags_secrets (announced_at setup writer)) (insertions_came (party w writer)) s
section_decodes values setup w writer id announced r h alive decoder written s rest next =
    let o = oldest_there id (as_encoded s) rest h.session.sections (h.follows.sections id alive ∙ next) in
    let oldest_is : oldest o.b.stream h.session.sections ≡ Some o.b = ap (λ i. oldest i h.session.sections) o.stream ∙ o.oldest_is in
    let kept : is_canceled h.session o.b.stream ≡ false = ap (is_canceled h.session) o.stream ∙ h.follows.canceled id ∙ ap is_some alive in
    let guards = flags_secrets (announced_at setup writer) in
    let so : o.b.encoder.choices.guards_secrets ≡ guards = oldest_has (λ b. b.encoder.choices.guards_secrets ≡ guards) o.b.stream h.session.sections o.b h.guards.1 oldest_is in
    ap (decode_section r) (sym (ap (λ (x : EncodedSection). x.encoded) o.is))
    ∙ values h.counts h.most 0 0 announced h.events h.session o.b r h.run decoder oldest_is kept (written o.b oldest_is kept)
    ∙ ap (λ g. let x = undecoded o.b in if nat_le x.count h.session.received then Fields (map (guarded g) x.fields) x.count else Missing x.count) so
    ∙ ap (λ (x : EncodedSection). if nat_le x.count h.session.received then Fields (map (guarded guards) x.fields) x.count else Missing x.count) o.is
    ∙ ap (λ n. if nat_le s.count n then Fields (map (guarded guards) s.fields) s.count else Missing s.count) h.follows.received

-- **What the decoder makes of the next section: its fields once its insertions came, and until then how many it needs.**
pub next_decodes : (lists : ListsAreTheirValue) (values : SectionsHaveValues) (setup : Setup) (w : World) (writer reader : Side) (announces : Announced) (id announced : ℕ) (r : DecoderState) (p : Party) (h : HasSession setup w writer)
    → IsSoundFlow p (flow w writer id) → (flow w writer id).fault ≡ None
    → IsDecoderAt announced h.session r → ((b : UndecodedSection) → oldest b.stream h.session.sections ≡ Some b → is_canceled h.session b.stream ≡ false → IsWritten h.session b)
    → DecodesNextAs lists reader announces id r (insertions_came (party w writer)) (flags_secrets (announced_at setup writer)) (next_part (flow w writer id))
next_decodes lists values setup w writer reader announces id announced r p h sound alive decoder written = by_part (next_part (flow w writer id)) refl
  where
    guards : Bool
    guards = flags_secrets (announced_at setup writer)

    decodes : (s : Section) (rest : List EncodedSection) → sections_left (flow w writer id) ≡ as_encoded s ∷ rest → decode_section r s.encoded ≡ tried_as guards (insertions_came (party w writer)) s
    decodes s rest next = section_decodes values setup w writer id announced r h alive decoder written s rest next

    by_part : (part : Option Part) → next_part (flow w writer id) ≡ part → DecodesNextAs lists reader announces id r (insertions_came (party w writer)) guards part
    by_part None next = tt
    by_part (Some (Interim s)) next = decodes s (sections_in (drop ((flow w writer id).parts_out + 1) (flow w writer id).sent)) (ap sections_in (part_at p (flow w writer id) (Interim s) sound next).behind)
    by_part (Some (Head s)) next = decodes s (sections_in (drop ((flow w writer id).parts_out + 1) (flow w writer id).sent)) (ap sections_in (part_at p (flow w writer id) (Head s) sound next).behind)
    by_part (Some (Trailer s)) next = decodes s (sections_in (drop ((flow w writer id).parts_out + 1) (flow w writer id).sent)) (ap sections_in (part_at p (flow w writer id) (Trailer s) sound next).behind)
    by_part (Some (Body bytes own)) next = tt
    by_part (Some End) next = tt

-- whether they were guarded or not
pub decodes_some : (lists : ListsAreTheirValue) (reader : Side) (announces : Announced) (id came : ℕ) (r : DecoderState) (guards : Bool) (part : Option Part) → DecodesNextAs lists reader announces id r came guards part
    → DecodesNext lists reader announces id r came part
decodes_some lists reader announces id came r guards None h = tt
decodes_some lists reader announces id came r guards (Some (Interim s)) h = record { guards = guards; is = h }
decodes_some lists reader announces id came r guards (Some (Head s)) h = record { guards = guards; is = h }
decodes_some lists reader announces id came r guards (Some (Trailer s)) h = record { guards = guards; is = h }
decodes_some lists reader announces id came r guards (Some (Body bytes own)) h = tt
decodes_some lists reader announces id came r guards (Some End) h = tt

-- **The next part is read as what it was sent as.**
pub next_readable : (lists : ListsAreTheirValue) (reader : Side) (announces : Announced) (id came : ℕ) (r : DecoderState) (f : Flow) → AllByRecursion (IsReadableBy (takes_any announces) reader) f.sent
    → IsReadableNext lists reader announces id r came (next_part f)
next_readable lists reader announces id came r f h = by_part (next_part f) refl
  where
    by_part : (part : Option Part) → next_part f ≡ part → IsReadableNext lists reader announces id r came part
    by_part None next = tt
    by_part (Some part) next = part_is (IsReadableBy (takes_any announces) reader) f.sent f.parts_out part h next
