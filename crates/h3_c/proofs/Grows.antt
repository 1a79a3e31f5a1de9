-- What an endpoint writes comes behind what it wrote, and no call but `advance` takes any of it.
use Rattle.std.proofs.Common.{◌≡◌, ◌⊎◌, inr, ℕ, ◌+◌, Bool, true, false, if◌then◌else◌, List, [], ◌∷◌, ◌++◌, flat_map, refl, sym, ap, subst, ◌∙◌, Option, Some, None, append_assoc, append-nil}
use Rattle.std.specs.List.{AllByRecursion}
use Rattle.std.specs.Prelude.{◌<◌, ◌==◌, ◌||◌, drop}
use Rattle.h3_coding.specs.Encodings.{encoding}
use Rattle.h3_field.specs.Instruction.{DecoderInstruction, EncoderInstruction, decoder_bytes, encoder_bytes}
use Rattle.h3_proto.specs.declared.stream.Side.{Side}
use Rattle.h3_proto.specs.declared.stream.Side.TheVariants.{Client, Server}
use Rattle.h3_connection.specs.Endpoint.{EndpointHistory, Own, kind_of, own_waiting}
use Rattle.h3_connection.specs.Endpoint.Kind.{Request}
use Rattle.h3_connection.specs.Outgoing.{Outgoing as Out, OwnPart, nothing_sent, written_part}
use Rattle.h3_connection.specs.OwnIds.{control_id, decoder_id, encoder_id, is_own}
use Rattle.h3_connection.specs.OwnSettings.{control_start}
use Rattle.h3_connection.specs.OwnUpdates.{control_frames, goaway_encoding}
use Rattle.h3_connection.specs.StreamSets.{Streams, set_stream, stream_at}
use Rattle.h3_connection.specs.StreamSetLaws.{set-here, set-other}
use Rattle.h3_c.proofs.Filling.{IsOfBytes, part_places}
use Rattle.h3_c.proofs.Views.{by_id}

-- the text of an own stream, and how much of it was taken
abbrev pub own_text : EndpointHistory → ℕ → List ℕ
own_text e id =
    if id == control_id e.side then control_start e.announced.settings e.own.further ++ control_frames 0 e.own.goaways e.own.updates else (
    if id == encoder_id e.side then encoding 2 ++ flat_map encoder_bytes e.own.instructions else (
    if id == decoder_id e.side then encoding 3 ++ flat_map decoder_bytes e.own.replies else []))

abbrev pub own_taken : EndpointHistory → ℕ → ℕ
own_taken e id =
    if id == control_id e.side then e.own.control_taken else (
    if id == encoder_id e.side then e.own.encoder_taken else (
    if id == decoder_id e.side then e.own.decoder_taken else 0))

pub waits_own : (e : EndpointHistory) (id : ℕ) → own_waiting e id ≡ drop (own_taken e id) (own_text e id)
waits_own e id = by (id == control_id e.side) (id == encoder_id e.side) (id == decoder_id e.side) e.own.control_taken e.own.encoder_taken e.own.decoder_taken _ _ _
  where
    by : (a b c : Bool) (m n o : ℕ) (x y z : List ℕ) → (if a then drop m x else (if b then drop n y else (if c then drop o z else [])))
        ≡ drop (if a then m else (if b then n else (if c then o else 0))) (if a then x else (if b then y else (if c then z else [])))
    by true b c m n o x y z = refl
    by false true c m n o x y z = refl
    by false false true m n o x y z = refl
    by false false false m n o x y z = refl

-- the bytes of a request stream
abbrev pub part_bytes : Out → List ℕ
part_bytes o = flat_map written_part o.parts

-- It wrote more there, or nothing.
pub record More (text longer : List ℕ) : Type 0 where
  pub more : List ℕ
  pub is : longer ≡ text ++ more

pub nothing_more : (text : List ℕ) → More text text
nothing_more text = record { more = []; is = sym (append-nil text) }

pub more_of : (x y z : List ℕ) → More x y → More y z → More x z
more_of x y z a b = record { more = a.more ++ b.more; is = b.is ∙ ap (λ l. l ++ b.more) a.is ∙ append_assoc x a.more b.more }

-- it is of bytes, without a place
abbrev pub IsPlain : OwnPart → Type 0
IsPlain part = IsOfBytes part × (part_places part ≡ 0)

-- of a request stream
pub record PartsGrow (o p : Out) : Type 0 where
  pub taken : p.taken ≡ o.taken
  pub reset : p.is_reset ≡ false → o.is_reset ≡ false
  pub more : List OwnPart
  pub is : p.parts ≡ o.parts ++ more
  pub plain : AllByRecursion IsPlain more

-- A client opens requests in order: `next` is the id behind them.
abbrev pub StreamGrows : Side → ℕ → ℕ → Option Out → Option Out → Type 0
StreamGrows side next id None None = Unit {0}
StreamGrows side next id None (Some p) = (p.taken ≡ 0) × (is_own side id ≡ false) × ((side ≡ Server) ⊎ (id < next)) × AllByRecursion IsPlain p.parts
StreamGrows side next id (Some o) (Some p) = PartsGrow o p
StreamGrows side next id (Some o) None = ⊥

-- of what it writes on its own streams
pub record OwnGrows (o p : Own) : Type 0 where
  pub further : p.further ≡ o.further
  pub updates : p.updates ≡ o.updates
  pub goaways : List ℕ
  pub goaways_is : p.goaways ≡ o.goaways ++ goaways
  pub instructions : List EncoderInstruction
  pub instructions_is : p.instructions ≡ o.instructions ++ instructions
  pub replies : List DecoderInstruction
  pub replies_is : p.replies ≡ o.replies ++ replies
  pub control_taken : p.control_taken ≡ o.control_taken
  pub encoder_taken : p.encoder_taken ≡ o.encoder_taken
  pub decoder_taken : p.decoder_taken ≡ o.decoder_taken

pub record Grows (e f : EndpointHistory) : Type 0 where
  pub side : f.side ≡ e.side
  pub announced : f.announced ≡ e.announced
  pub next : (f.next_id ≡ e.next_id) ⊎ (f.next_id ≡ e.next_id + 4)
  pub own : OwnGrows e.own f.own
  pub streams : (id : ℕ) → StreamGrows e.side f.next_id id (stream_at e.outgoing id) (stream_at f.outgoing id)

-- nothing
pub own_same : (o : Own) → OwnGrows o o
own_same o = record {
  further = refl;
  updates = refl;
  goaways = [];
  goaways_is = sym (append-nil o.goaways);
  instructions = [];
  instructions_is = sym (append-nil o.instructions);
  replies = [];
  replies_is = sym (append-nil o.replies);
  control_taken = refl;
  encoder_taken = refl;
  decoder_taken = refl;
}

pub own_is : (o p : Own) → p ≡ o → OwnGrows o p
own_is o p is = subst (λ x. OwnGrows o x) (sym is) (own_same o)

joined : {X : Type 0} (x y z a b : List X) → y ≡ x ++ a → z ≡ y ++ b → z ≡ x ++ (a ++ b)
joined x y z a b one two = two ∙ ap (λ l. l ++ b) one ∙ append_assoc x a b

pub own_then : (o p q : Own) → OwnGrows o p → OwnGrows p q → OwnGrows o q
own_then o p q a b = record {
  further = b.further ∙ a.further;
  updates = b.updates ∙ a.updates;
  goaways = a.goaways ++ b.goaways;
  goaways_is = joined o.goaways p.goaways q.goaways a.goaways b.goaways a.goaways_is b.goaways_is;
  instructions = a.instructions ++ b.instructions;
  instructions_is = joined o.instructions p.instructions q.instructions a.instructions b.instructions a.instructions_is b.instructions_is;
  replies = a.replies ++ b.replies;
  replies_is = joined o.replies p.replies q.replies a.replies b.replies a.replies_is b.replies_is;
  control_taken = b.control_taken ∙ a.control_taken;
  encoder_taken = b.encoder_taken ∙ a.encoder_taken;
  decoder_taken = b.decoder_taken ∙ a.decoder_taken;
}

pub replies_grow : (o : Own) (replies : List DecoderInstruction) → OwnGrows o (record o { replies = o.replies ++ replies })
replies_grow o replies = record {
  further = refl;
  updates = refl;
  goaways = [];
  goaways_is = sym (append-nil o.goaways);
  instructions = [];
  instructions_is = sym (append-nil o.instructions);
  replies = replies;
  replies_is = refl;
  control_taken = refl;
  encoder_taken = refl;
  decoder_taken = refl;
}

pub instructions_grow : (o : Own) (instructions : List EncoderInstruction) → OwnGrows o (record o { instructions = o.instructions ++ instructions })
instructions_grow o instructions = record {
  further = refl;
  updates = refl;
  goaways = [];
  goaways_is = sym (append-nil o.goaways);
  instructions = instructions;
  instructions_is = refl;
  replies = [];
  replies_is = sym (append-nil o.replies);
  control_taken = refl;
  encoder_taken = refl;
  decoder_taken = refl;
}

pub goaways_grow : (o : Own) (goaways : List ℕ) → OwnGrows o (record o { goaways = o.goaways ++ goaways })
goaways_grow o goaways = record {
  further = refl;
  updates = refl;
  goaways = goaways;
  goaways_is = refl;
  instructions = [];
  instructions_is = sym (append-nil o.instructions);
  replies = [];
  replies_is = sym (append-nil o.replies);
  control_taken = refl;
  encoder_taken = refl;
  decoder_taken = refl;
}

pub same_parts : (o : Out) → PartsGrow o o
same_parts o = record { taken = refl; reset = λ goes. goes; more = []; is = sym (append-nil o.parts); plain = tt }

pub stream_same : (side : Side) (next id : ℕ) (o : Option Out) → StreamGrows side next id o o
stream_same side next id None = tt
stream_same side next id (Some o) = same_parts o

-- A stream that is set, where it was there.
pub set_grows : (side : Side) (next : ℕ) (streams : Streams Out) (id : ℕ) (o p : Out) → stream_at streams id ≡ Some o → PartsGrow o p → (i : ℕ) → StreamGrows side next i (stream_at streams i) (stream_at (set_stream streams id p) i)
set_grows side next streams id o p at grows i =
    by_id id i (λ b. StreamGrows side next i (stream_at streams i) (stream_at (set_stream streams id p) i))
    (λ same. subst (λ j. StreamGrows side next j (stream_at streams j) (stream_at (set_stream streams id p) j)) same
    (subst (λ x. StreamGrows side next id x (stream_at (set_stream streams id p) id)) (sym at) (subst (λ x. StreamGrows side next id (Some o) x) (sym (set-here streams id p)) grows)))
    (λ differs. subst (λ x. StreamGrows side next i (stream_at streams i) x) (sym (set-other streams id i p differs)) (stream_same side next i (stream_at streams i)))

-- A stream that was not there.
pub new_grows : (side : Side) (next : ℕ) (streams : Streams Out) (id : ℕ) → stream_at streams id ≡ None → is_own side id ≡ false → id < next → (i : ℕ) → StreamGrows side next i (stream_at streams i) (stream_at (set_stream streams id nothing_sent) i)
new_grows side next streams id at other below i =
    by_id id i (λ b. StreamGrows side next i (stream_at streams i) (stream_at (set_stream streams id nothing_sent) i))
    (λ same. subst (λ j. StreamGrows side next j (stream_at streams j) (stream_at (set_stream streams id nothing_sent) j)) same
    (subst (λ x. StreamGrows side next id x (stream_at (set_stream streams id nothing_sent) id)) (sym at) (subst (λ x. StreamGrows side next id None x) (sym (set-here streams id nothing_sent)) (refl, other, inr below, tt))))
    (λ differs. subst (λ x. StreamGrows side next i (stream_at streams i) x) (sym (set-other streams id i nothing_sent differs)) (stream_same side next i (stream_at streams i)))

-- A request stream is none of the own ones.
pub request_is_none : (side : Side) (id : ℕ) → kind_of side id ≡ Request → is_own side id ≡ false
request_is_none side id is = ap (λ b. b || (id == encoder_id side) || (id == decoder_id side)) (differs side id (control_id side) (not_control side) is)
    ∙ ap (λ b. false || b || (id == decoder_id side)) (differs side id (encoder_id side) (not_encoder side) is)
    ∙ ap (λ b. false || false || b) (differs side id (decoder_id side) (not_decoder side) is)
  where
    not_control : (s : Side) → kind_of s (control_id s) ≡ Request → ⊥
    not_control Client h = absurd (cc)
    not_control Server h = absurd (cc)

    not_encoder : (s : Side) → kind_of s (encoder_id s) ≡ Request → ⊥
    not_encoder Client h = absurd (cc)
    not_encoder Server h = absurd (cc)

    not_decoder : (s : Side) → kind_of s (decoder_id s) ≡ Request → ⊥
    not_decoder Client h = absurd (cc)
    not_decoder Server h = absurd (cc)

    differs : (s : Side) (i own : ℕ) → (kind_of s own ≡ Request → ⊥) → kind_of s i ≡ Request → (i == own) ≡ false
    differs s i own never here = by_id i own (λ b. b ≡ false) (λ same. absurd (never (subst (λ j. kind_of s j ≡ Request) same here))) (λ other. refl)

-- The texts of own streams grow, where no priority was said.
frames_joined : (ids more : List ℕ) → flat_map goaway_encoding (ids ++ more) ≡ flat_map goaway_encoding ids ++ flat_map goaway_encoding more
frames_joined [] more = refl
frames_joined (id ∷ ids) more =
    ap (λ l. goaway_encoding id ++ l) (frames_joined ids more) ∙ sym (append_assoc (goaway_encoding id) (flat_map goaway_encoding ids) (flat_map goaway_encoding more))

encoded_joined : (xs more : List EncoderInstruction) → flat_map encoder_bytes (xs ++ more) ≡ flat_map encoder_bytes xs ++ flat_map encoder_bytes more
encoded_joined [] more = refl
encoded_joined (x ∷ xs) more = ap (λ l. encoder_bytes x ++ l) (encoded_joined xs more) ∙ sym (append_assoc (encoder_bytes x) (flat_map encoder_bytes xs) (flat_map encoder_bytes more))

decoded_joined : (xs more : List DecoderInstruction) → flat_map decoder_bytes (xs ++ more) ≡ flat_map decoder_bytes xs ++ flat_map decoder_bytes more
decoded_joined [] more = refl
decoded_joined (x ∷ xs) more = ap (λ l. decoder_bytes x ++ l) (decoded_joined xs more) ∙ sym (append_assoc (decoder_bytes x) (flat_map decoder_bytes xs) (flat_map decoder_bytes more))

behind : (start x y more : List ℕ) → y ≡ x ++ more → start ++ y ≡ (start ++ x) ++ more
behind start x y more is = ap (λ l. start ++ l) is ∙ sym (append_assoc start x more)

more_if : (a b c : Bool) (x y z x2 y2 z2 : List ℕ) → More x x2 → More y y2 → More z z2
    → More (if a then x else (if b then y else (if c then z else []))) (if a then x2 else (if b then y2 else (if c then z2 else [])))
more_if true b c x y z x2 y2 z2 p q r = p
more_if false true c x y z x2 y2 z2 p q r = q
more_if false false true x y z x2 y2 z2 p q r = r
more_if false false false x y z x2 y2 z2 p q r = nothing_more []

module _ (e f : EndpointHistory) (grows : Grows e f) (silent : e.own.updates ≡ []) where
  own : OwnGrows e.own f.own
  own = grows.own

  control_grows : More (control_start e.announced.settings e.own.further ++ control_frames 0 e.own.goaways e.own.updates) (control_start f.announced.settings f.own.further ++ control_frames 0 f.own.goaways f.own.updates)
  control_grows =
      let start = ap (λ a. control_start a.settings f.own.further) grows.announced ∙ ap (λ l. control_start e.announced.settings l) own.further in
      let new : control_frames 0 f.own.goaways f.own.updates ≡ flat_map goaway_encoding f.own.goaways = ap (λ l. control_frames 0 f.own.goaways l) (own.updates ∙ silent) in
      let old : control_frames 0 e.own.goaways e.own.updates ≡ flat_map goaway_encoding e.own.goaways = ap (λ l. control_frames 0 e.own.goaways l) silent in
      let joined_is = ap (λ l. flat_map goaway_encoding l) own.goaways_is ∙ frames_joined e.own.goaways own.goaways in
      record {
        more = flat_map goaway_encoding own.goaways;
        is = ap (λ l. l ++ control_frames 0 f.own.goaways f.own.updates) start
            ∙ behind (control_start e.announced.settings e.own.further) (control_frames 0 e.own.goaways e.own.updates) (control_frames 0 f.own.goaways f.own.updates) (flat_map goaway_encoding own.goaways)
            (new ∙ joined_is ∙ ap (λ l. l ++ flat_map goaway_encoding own.goaways) (sym old));
      }

  encoder_grows : More (encoding 2 ++ flat_map encoder_bytes e.own.instructions) (encoding 2 ++ flat_map encoder_bytes f.own.instructions)
  encoder_grows = record {
    more = flat_map encoder_bytes own.instructions;
    is = behind (encoding 2) (flat_map encoder_bytes e.own.instructions) (flat_map encoder_bytes f.own.instructions) (flat_map encoder_bytes own.instructions)
        (ap (λ l. flat_map encoder_bytes l) own.instructions_is ∙ encoded_joined e.own.instructions own.instructions);
  }

  decoder_grows : More (encoding 3 ++ flat_map decoder_bytes e.own.replies) (encoding 3 ++ flat_map decoder_bytes f.own.replies)
  decoder_grows = record {
    more = flat_map decoder_bytes own.replies;
    is = behind (encoding 3) (flat_map decoder_bytes e.own.replies) (flat_map decoder_bytes f.own.replies) (flat_map decoder_bytes own.replies)
        (ap (λ l. flat_map decoder_bytes l) own.replies_is ∙ decoded_joined e.own.replies own.replies);
  }

  abbrev texts_if : Side → ℕ → List ℕ
  texts_if side id =
      if id == control_id side then control_start f.announced.settings f.own.further ++ control_frames 0 f.own.goaways f.own.updates else (
      if id == encoder_id side then encoding 2 ++ flat_map encoder_bytes f.own.instructions else (
      if id == decoder_id side then encoding 3 ++ flat_map decoder_bytes f.own.replies else []))

  abbrev taken_if : Side → ℕ → ℕ
  taken_if side id =
      if id == control_id side then f.own.control_taken else (
      if id == encoder_id side then f.own.encoder_taken else (
      if id == decoder_id side then f.own.decoder_taken else 0))

  pub texts_grow : (id : ℕ) → More (own_text e id) (own_text f id)
  texts_grow id = subst (λ s. More (own_text e id) (texts_if s id)) (sym grows.side)
      (more_if (id == control_id e.side) (id == encoder_id e.side) (id == decoder_id e.side) _ _ _ _ _ _ control_grows encoder_grows decoder_grows)

  pub taken_stays : (id : ℕ) → own_taken f id ≡ own_taken e id
  taken_stays id = ap (λ s. taken_if s id) grows.side
      ∙ ap (λ n. if id == control_id e.side then n else (if id == encoder_id e.side then f.own.encoder_taken else (if id == decoder_id e.side then f.own.decoder_taken else 0))) own.control_taken
      ∙ ap (λ n. if id == control_id e.side then e.own.control_taken else (if id == encoder_id e.side then n else (if id == decoder_id e.side then f.own.decoder_taken else 0))) own.encoder_taken
      ∙ ap (λ n. if id == control_id e.side then e.own.control_taken else (if id == encoder_id e.side then e.own.encoder_taken else (if id == decoder_id e.side then n else 0))) own.decoder_taken
