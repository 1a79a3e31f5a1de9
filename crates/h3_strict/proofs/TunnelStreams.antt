-- A pull at a strict end: it finds no trailer in a tunnel, and leaves that tunnels stand.
use Rattle.std.proofs.Common.{◌≡◌, ◌⊎◌, inl, inr, ℕ, ◌+◌, ◌-◌, Bool, true, false, List, [], ◌∷◌, refl, sym, ap, ◌∙◌, subst, Option, Some, None, take, nat_lt, if◌then◌else◌}
use Rattle.std.specs.Prelude.{◌||◌, codes, slice_get, suc, unwrap_or, zero}
use Rattle.std.specs.List.{AllByRecursion, concat, list_any}
use Rattle.h3_messages.specs.Content.{awaited_by, content_behind_response, content_behind_status, content_of_request, takes_trailer, until_answered}
use Rattle.h3_messages.specs.Messages.{is_connect, value_of}
use Rattle.h3_messages.specs.declared.content.Content.{Content}
use Rattle.h3_messages.specs.declared.content.Content.TheVariants.{Tunnel, Unsaid}
use Rattle.h3_proto.specs.declared.stream.Side.{Side}
use Rattle.h3_proto.specs.declared.stream.Side.TheVariants.{Client, Server}
use Rattle.h3_qpack.specs.DecoderState.{DecoderState}
use Rattle.h3_qpack.specs.Sizes.{last_value}
use Rattle.h3_frames.specs.ExcessiveFrames.{begins_section, is_excessive_by}
use Rattle.h3_connection.specs.Coming.{fields_next}
use Rattle.h3_connection.specs.Incoming.{Incoming, is_before_head, is_body}
use Rattle.h3_connection.specs.PartReading.{HasNoSection}
use Rattle.h3_connection.specs.Pulling.{Pulled, pull_stream, read_section}
use Rattle.h3_connection.specs.Skipping.{skipped}
use Rattle.h3_connection.specs.StrictConnection.{kinds_of}
use Rattle.h3_connection.specs.StrictMessages.{content_at, content_behind, content_behind_large, large_content_at, response_at, response_behind}
use Rattle.h3_connection.specs.declared.event.Pull.{Pull}
use Rattle.h3_connection.specs.declared.place.Place.{Place}
use Rattle.h3_connection.specs.declared.place.Place.TheVariants.{AfterTrailer, BeforeHead, InBody, InSession}
use Rattle.h3_connection.specs.declared.setup.Announced.{Announced}
use Rattle.h3_world.specs.Flow.{Flow, Part, Section}
use Rattle.h3_world.specs.Flow.Part.{Body, End, Head as HeadPart, Interim, Trailer}
use Rattle.h3_world.specs.Order.{is_over, next_part, section_of_part}
use Rattle.h3_world.specs.Sound.{IsSoundFlow}
use Rattle.h3_world.specs.World.{Party}
use Rattle.h3_headline.specs.PartLaws.{part_at}
use Rattle.h3_headline.specs.Pulling.{ComesTo}
use Rattle.h3_headline.specs.Pulls.{IsListOf}
use Rattle.h3_headline.specs.Standing.{IsReadableBy, place_after}
use Rattle.h3_strict.proofs.BehindPulls.{FrontPull, FrontReads, FrontStays, front_behind, is_item, pull_walks}
use Rattle.h3_strict.proofs.PulledTallies.{head_asks}
use Rattle.h3_strict.proofs.TunnelFaults.{InTunnel, NoFault, SameAnswer, TooLong, Why, comes_faultless, ends_all, pull_why, trailer_comes}
use Rattle.h3_strict.proofs.TunnelParts.{any_at}
use Rattle.h3_strict.proofs.TunnelPulls.{Stays, leaves_behind, payload_stays, pull_stays, request_tunnel, section_marked, section_response, status_tunnel}
use Rattle.h3_strict.specs.Plainly.{plain, plain_incoming}
use Rattle.h3_strict.specs.Tallies.{asked_in, has_head}
use Rattle.h3_strict.specs.Tunnels.{AwaitsTunnel, asks_tunnel, is_tunnel, marked, may_be_tunnel, may_begin, opens_tunnel, trails, tunnels}

-- The flow after a pull of it.
pub record Moved (f g : Flow) (a : Pull) : Type 0 where
  pub sent : g.sent ≡ f.sent
  pub stays : is_item a ≡ false → g.parts_out ≡ f.parts_out
  pub moves : (g.parts_out ≡ f.parts_out) ⊎ (g.parts_out ≡ f.parts_out + 1)

pub in_front : {X : Type 0} → InBody ≡ BeforeHead → X
in_front e = let k : false ≡ true = ap is_before_head e in absurd (cc)

pub clash : {X : Type 0} → (b : Bool) → b ≡ true → b ≡ false → X
clash b h k = absurd (let never : true ≡ false = sym h ∙ k in cc)

-- content in which no trailer may come
pub no_trailer_marked : (side : Side) (content : Content) → takes_trailer content ≡ false → marked side content ≡ true
no_trailer_marked Client Tunnel h = refl
no_trailer_marked Server Tunnel h = refl
no_trailer_marked side content h = absurd (cc)

or_left : (a b : Bool) → a ≡ true → (a || b) ≡ true
or_left true b h = refl
or_left false b h = absurd (cc)

or_right : (a b : Bool) → b ≡ true → (a || b) ≡ true
or_right true b h = refl
or_right false b h = h

-- content that is marked as the test says
abbrev marks : Bool → Content
marks true = Tunnel
marks false = Unsaid

marks_on : (side : Side) (b : Bool) → b ≡ true → marked side (marks b) ≡ true
marks_on Client true h = refl
marks_on Server true h = refl
marks_on side false h = absurd (cc)

marks_off : (side : Side) (b : Bool) → marked side (marks b) ≡ true → b ≡ true
marks_off side true h = refl
marks_off Client false h = absurd (cc)
marks_off Server false h = absurd (cc)

by_front : (place : Place) → (place ≡ BeforeHead) ⊎ (is_before_head place ≡ false)
by_front BeforeHead = inl refl
by_front InBody = inr refl
by_front AfterTrailer = inr refl
by_front InSession = inr refl

-- What is known of a receiver that stands in front of a flow's next part, also if it has begun to read it: where it is, what it comes to if nothing is judged, and
-- that what stands next and is too long is a section.
pub record Along (side : Side) (own : Announced) (id : ℕ) (r : DecoderState) (came : ℕ) (f : Flow) (i : Incoming) : Type 0 where
  pub fault : i.fault ≡ None
  pub goes_on : i.is_over ≡ false
  pub place : i.place ≡ place_after (take f.parts_out f.sent)
  pub most : ℕ
  pub comes : ComesTo most id f came (next_part f) (pull_stream side (plain own) id r (plain_incoming i))
  pub guards : Bool
  pub lists : HasNoSection (pull_stream side (plain own) id r (plain_incoming i)).answer ⊎ IsListOf guards (fields_next (plain own) r (plain_incoming i)) (section_of_part (next_part f))
  pub sections : i.section ≡ None → nat_lt 0 i.body_left ≡ false → is_excessive_by (kinds_of own) own.choices.unfinished_limit (skipped (kinds_of own) (is_body i.place) (concat i.unread)) ≡ true
      → begins_section (skipped (kinds_of own) (is_body i.place) (concat i.unread)) ≡ true

module _ (side : Side) (own : Announced) (id : ℕ) (r : DecoderState) (came : ℕ) (p : Party) (f : Flow) (i : Incoming) (sound : IsSoundFlow p f) (along : Along side own id r came f i) where
  -- In front of the final head.
  front : place_after (take f.parts_out f.sent) ≡ BeforeHead → FrontPull side own id r f i (pull_stream side own id r i)
  front at =
      front_behind side own id r along.most came along.guards p f i sound at
      (pull_walks side own id r i (along.place ∙ at) along.fault along.goes_on (payload_stays side i.content i.response own id r i (λ m. m) refl)) along.comes along.lists

  -- **No fault of the connection comes of it**, where the same receiver that judges plainly comes to the next part.
  pub no_fault : (takes_trailer i.content ≡ false → place_after (take f.parts_out f.sent) ≡ InBody → list_any trails f.sent ≡ true → ⊥) → ends_all (pull_stream side own id r i).answer ≡ false
  no_fault none = by_why (pull_why side own id r i)
    where
      by_why : Why own i (pull_stream side own id r i) (pull_stream side (plain own) id r (plain_incoming i)) → ends_all (pull_stream side own id r i).answer ≡ false
      by_why (SameAnswer is) = ap ends_all (sym is) ∙ comes_faultless along.most id came f (next_part f) (pull_stream side (plain own) id r (plain_incoming i)) along.comes
      by_why (NoFault is) = is
      by_why (InTunnel takes place may) =
          let at : place_after (take f.parts_out f.sent) ≡ InBody = sym along.place ∙ place in
          absurd (none takes at (trailer_comes along.most id came p f (pull_stream side (plain own) id r (plain_incoming i)) sound at along.comes may))
      by_why (TooLong lives section whole long other) =
          clash (begins_section (skipped (kinds_of own) (is_body i.place) (concat i.unread))) (along.sections section whole long) other

-- What is left of both receivers.
module _ (own : Announced) (id : ℕ) (r : DecoderState) (strict : own.choices.strict_messages ≡ true) (came : ℕ) (p : Party) (f : Flow) (i : Incoming) (sound : IsSoundFlow p f) where
  -- **The client's**: it counts a tunnel only if one was awaited, and if it read the head of its response, this may begin one.
  pub client_left : (q : List Part) (g : Flow) → Along Client own id r came f i → (i.fault ≡ None → marked Client i.content ≡ true → AwaitsTunnel q f)
      → Moved f g (pull_stream Client own id r i).answer → (pull_stream Client own id r i).incoming.fault ≡ None → marked Client (pull_stream Client own id r i).incoming.content ≡ true → AwaitsTunnel q g
  client_left q g along old moved lives mark = by_place (by_front (place_after (take f.parts_out f.sent)))
    where
      x : Pulled
      x = pull_stream Client own id r i

      fault : i.fault ≡ None
      fault = along.fault

      place : i.place ≡ place_after (take f.parts_out f.sent)
      place = along.place

      opens : list_any opens_tunnel f.sent ≡ true → AwaitsTunnel q f → AwaitsTunnel q g
      opens there h = record { has = h.has; asked = h.asked; stands = inr (ap (list_any opens_tunnel) moved.sent ∙ there) }

      behind : is_before_head (place_after (take f.parts_out f.sent)) ≡ false → AwaitsTunnel q f → AwaitsTunnel q g
      behind off h = of h.stands
        where
          of : (place_after (take f.parts_out f.sent) ≡ BeforeHead) ⊎ (list_any opens_tunnel f.sent ≡ true) → AwaitsTunnel q g
          of (inl at) = clash (is_before_head (place_after (take f.parts_out f.sent))) (ap is_before_head at) off
          of (inr there) = opens there h

      front_stays : place_after (take f.parts_out f.sent) ≡ BeforeHead → place_after (take (f.parts_out + 1) f.sent) ≡ BeforeHead → AwaitsTunnel q f → AwaitsTunnel q g
      front_stays at next h = record { has = h.has; asked = h.asked; stands = inl (ap (λ l. place_after (take g.parts_out l)) moved.sent ∙ of moved.moves) }
        where
          of : (g.parts_out ≡ f.parts_out) ⊎ (g.parts_out ≡ f.parts_out + 1) → place_after (take g.parts_out f.sent) ≡ BeforeHead
          of (inl is) = ap (λ n. place_after (take n f.sent)) is ∙ at
          of (inr is) = ap (λ n. place_after (take n f.sent)) is ∙ next

      by_pull : place_after (take f.parts_out f.sent) ≡ BeforeHead → FrontPull Client own id r f i x → AwaitsTunnel q g
      by_pull at (FrontStays still none) =
          let h = old fault (still.content lives mark) in
          record { has = h.has; asked = h.asked; stands = inl (ap (λ l. place_after (take g.parts_out l)) moved.sent ∙ ap (λ n. place_after (take n f.sent)) (moved.stays none) ∙ at) }
      by_pull at (FrontReads part s y replies next is x_is y_place content response) = by_part part next is
        where
          status : List ℕ
          status = value_of (codes ":status") s.fields

          last : List ℕ
          last = unwrap_or (last_value (codes ":status") s.fields) []

          -- the content of the section that was read
          whole_is : content_at Client own y.place y.content s.fields ≡ content_behind_response i.content s.fields
          whole_is = ap (λ b. if b then content_behind Client y.place y.content s.fields else y.content) strict ∙ ap (λ z. content_behind Client z y.content s.fields) y_place ∙ ap (λ c. content_behind_response c s.fields) content

          large_is : large_content_at Client own y.place y.content (last_value (codes ":status") s.fields) ≡ content_behind_status i.content last []
          large_is = ap (λ b. if b then content_behind_large Client y.place y.content (last_value (codes ":status") s.fields) else y.content) strict
              ∙ ap (λ z. content_behind_large Client z y.content (last_value (codes ":status") s.fields)) y_place ∙ ap (λ c. content_behind_status c last []) content

          reads : (before : Content) → (is_tunnel i.content ≡ true → tunnels status ≡ true → marked Client before ≡ true) → (is_tunnel i.content ≡ true → tunnels last ≡ true → marked Client before ≡ true) → marked Client before ≡ true
          reads before whole large =
              section_marked Client before own id r y replies s.fields
              (λ m. let k = status_tunnel i.content status (value_of (codes "content-length") s.fields) (ap is_tunnel (sym whole_is) ∙ m) in whole k.0 k.1)
              (λ m. let k = status_tunnel i.content last [] (ap is_tunnel (sym large_is) ∙ m) in large k.0 k.1)
              (ap (λ (z : Pulled). z.incoming.fault) (sym x_is) ∙ lives) (ap (λ (z : Pulled). is_tunnel z.incoming.content) (sym x_is) ∙ mark)

          before_is : AwaitsTunnel q f
          before_is = old fault (reads i.content (λ a b. a) (λ a b. a))

          may : may_begin s ≡ true
          may =
              let test = tunnels status || tunnels last in
              marks_off Client test (reads (marks test) (λ a b. marks_on Client test (or_left (tunnels status) (tunnels last) b)) (λ a b. marks_on Client test (or_right (tunnels status) (tunnels last) b)))

          same_section : {s t : Section} → ◌≡◌ {A = Option Section} (Some s) (Some t) → t ≡ s
          same_section {s} {t} e = ap (λ o. unwrap_or o s) (sym e)

          by_part : (z : Part) → next_part f ≡ Some z → section_of_part (Some z) ≡ Some s → AwaitsTunnel q g
          by_part (Interim t) next is = front_stays at ((part_at p f (Interim t) sound next).place_next ∙ at) before_is
          by_part (HeadPart t) next is = opens (any_at opens_tunnel f.sent f.parts_out (HeadPart t) next (ap may_begin (sym (same_section is)) ∙ may)) before_is
          by_part (Trailer t) next is = in_front (sym (part_at p f (Trailer t) sound next).place_is ∙ at)
          by_part (Body bytes end) next is = absurd (let never : None ≡ Some s = is in cc)
          by_part End next is = absurd (let never : None ≡ Some s = is in cc)

      by_place : (place_after (take f.parts_out f.sent) ≡ BeforeHead) ⊎ (is_before_head (place_after (take f.parts_out f.sent)) ≡ false) → AwaitsTunnel q g
      by_place (inl at) = by_pull at (front Client own id r came p f i sound along at)
      by_place (inr off) = behind off (old fault ((pull_stays Client own id r i (leaves_behind Client own i.place (ap is_before_head place ∙ off))).content lives mark))

  -- **The server's**: it counts one only if the request asks for one, and knows what it asks for.
  pub server_left : Along Server own id r came f i → AllByRecursion (IsReadableBy true Server) f.sent → (i.fault ≡ None → marked Server i.content ≡ true → list_any asks_tunnel f.sent ≡ true)
      → ((c : Content) → i.response ≡ Some c → (has_head f.sent ≡ true) × (c ≡ asked_in f.sent))
      → ((pull_stream Server own id r i).incoming.fault ≡ None → marked Server (pull_stream Server own id r i).incoming.content ≡ true → list_any asks_tunnel f.sent ≡ true)
      × ((c : Content) → (pull_stream Server own id r i).incoming.response ≡ Some c → (has_head f.sent ≡ true) × (c ≡ asked_in f.sent))
  server_left along readable old known = by_place (by_front (place_after (take f.parts_out f.sent)))
    where
      x : Pulled
      x = pull_stream Server own id r i

      fault : i.fault ≡ None
      fault = along.fault

      place : i.place ≡ place_after (take f.parts_out f.sent)
      place = along.place

      Left : Pulled → Type 0
      Left z = (z.incoming.fault ≡ None → marked Server z.incoming.content ≡ true → list_any asks_tunnel f.sent ≡ true) × ((c : Content) → z.incoming.response ≡ Some c → (has_head f.sent ≡ true) × (c ≡ asked_in f.sent))

      still : (z : Pulled) → Stays Server i.content i.response z → Left z
      still z h = (λ lives mark. old fault (h.content lives mark), λ c is. known c (sym h.response ∙ is))

      by_pull : place_after (take f.parts_out f.sent) ≡ BeforeHead → FrontPull Server own id r f i x → Left x
      by_pull at (FrontStays stays_so none) = still x stays_so
      by_pull at (FrontReads part s y replies next is x_is y_place content response) = by_part part next is
        where
          same_section : {s t : Section} → ◌≡◌ {A = Option Section} (Some s) (Some t) → t ≡ s
          same_section {s} {t} e = ap (λ o. unwrap_or o s) (sym e)

          whole_is : content_at Server own y.place y.content s.fields ≡ until_answered (content_of_request s.fields)
          whole_is = ap (λ b. if b then content_behind Server y.place y.content s.fields else y.content) strict ∙ ap (λ z. content_behind Server z y.content s.fields) y_place

          large_is : large_content_at Server own y.place y.content (last_value (codes ":status") s.fields) ≡ i.content
          large_is = ap (λ b. if b then content_behind_large Server y.place y.content (last_value (codes ":status") s.fields) else y.content) strict ∙ content

          response_is : response_at Server own y.place y.response s.fields ≡ Some (awaited_by s.fields)
          response_is = ap (λ b. if b then response_behind Server y.place y.response s.fields else y.response) strict ∙ ap (λ z. response_behind Server z y.response s.fields) y_place

          head_read : (t : Section) → next_part f ≡ Some (HeadPart t) → t ≡ s → Left x
          head_read t next t_is = subst Left (sym x_is) (marks_so, knows_so)
            where
              asks : (has_head f.sent ≡ true) × (awaited_by s.fields ≡ asked_in f.sent)
              asks = let k = head_asks p None 0 f.sent f.parts_out t sound.sent next in (k.1, ap (λ (z : Section). awaited_by z.fields) (sym t_is) ∙ sym k.0)

              marks_so : (read_section Server own id r y replies s.fields).incoming.fault ≡ None → marked Server (read_section Server own id r y replies s.fields).incoming.content ≡ true → list_any asks_tunnel f.sent ≡ true
              marks_so lives mark =
                  let test = list_any asks_tunnel f.sent in
                  marks_off Server test (section_marked Server (marks test) own id r y replies s.fields
                  (λ m. marks_on Server test (any_at asks_tunnel f.sent f.parts_out (HeadPart t) next (ap (λ (z : Section). is_connect z.fields) t_is ∙ request_tunnel s.fields (ap may_be_tunnel (sym whole_is) ∙ m))))
                  (λ m. marks_on Server test (old fault (ap may_be_tunnel (sym large_is) ∙ m))) lives mark)

              knows_so : (c : Content) → (read_section Server own id r y replies s.fields).incoming.response ≡ Some c → (has_head f.sent ≡ true) × (c ≡ asked_in f.sent)
              knows_so c k = of (section_response Server own id r y replies s.fields)
                where
                  some_is : {a b : Content} → ◌≡◌ {A = Option Content} (Some a) (Some b) → b ≡ a
                  some_is {a} {b} e = ap (λ o. unwrap_or o a) (sym e)

                  of : ((read_section Server own id r y replies s.fields).incoming.response ≡ y.response)
                      ⊎ ((read_section Server own id r y replies s.fields).incoming.response ≡ response_at Server own y.place y.response s.fields) → (has_head f.sent ≡ true) × (c ≡ asked_in f.sent)
                  of (inl e) = known c (sym response ∙ sym e ∙ k)
                  of (inr e) = (asks.0, some_is (sym response_is ∙ sym e ∙ k) ∙ asks.1)

          by_part : (z : Part) → next_part f ≡ Some z → section_of_part (Some z) ≡ Some s → Left x
          by_part (HeadPart t) next is = head_read t next (same_section (sym is))
          by_part (Interim t) next is = absurd (let never : false ≡ true = (readable_at f.sent f.parts_out (Interim t) readable next).0 in cc)
            where
              readable_at : (parts : List Part) (n : ℕ) (z : Part) → AllByRecursion (IsReadableBy true Server) parts → slice_get parts n ≡ Some z → IsReadableBy true Server z
              readable_at [] n z h e = absurd (cc)
              readable_at (v ∷ parts) zero z h e = subst (IsReadableBy true Server) (ap (λ o. unwrap_or o v) e) h.0
              readable_at (v ∷ parts) (suc n) z h e = readable_at parts n z h.1 e
          by_part (Trailer t) next is = in_front (sym (part_at p f (Trailer t) sound next).place_is ∙ at)
          by_part (Body bytes end) next is = absurd (let never : None ≡ Some s = is in cc)
          by_part End next is = absurd (let never : None ≡ Some s = is in cc)

      by_place : (place_after (take f.parts_out f.sent) ≡ BeforeHead) ⊎ (is_before_head (place_after (take f.parts_out f.sent)) ≡ false) → Left x
      by_place (inl at) = by_pull at (front Server own id r came p f i sound along at)
      by_place (inr off) = still x (pull_stays Server own id r i (leaves_behind Server own i.place (ap is_before_head place ∙ off)))
