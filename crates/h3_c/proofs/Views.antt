-- An endpoint as a schedule sees it: of what sends first, by its own calls or its peer's PRIORITY_UPDATE frames, and of the FINs that QUIC took, nothing
-- is known; and as much of each stream's text counts as taken as a view says.
use Rattle.std.proofs.Common.{arith, ◌≡◌, ℕ, ◌+◌, Bool, true, false, if◌then◌else◌, List, [], ◌∷◌, ◌++◌, refl, sym, ap, ◌∙◌, Option, Some, None}
use Rattle.std.specs.Prelude.{◌==◌, is_some, option_map, unwrap_or}
use Rattle.std.proofs.lemmas.Bool.{eqb-true}
use Rattle.std.proofs.lemmas.Grind.{common_steps}
use Rattle.h3_field.specs.ReadBack.{AreBytes}
use Rattle.h3_connection.specs.Endpoint.{EndpointHistory}
use Rattle.h3_connection.specs.Order.{default_precedence, no_order}
use Rattle.h3_connection.specs.Outgoing.{Outgoing as Out, OwnPart, nothing_sent, with_body, with_finish, with_reset, with_said}
use Rattle.h3_connection.specs.Outgoing.OwnPart.{OwnBody}
use Rattle.h3_connection.specs.Refusals.{seen as seen_of}
use Rattle.h3_connection.specs.Sending.{is_open, outgoing_at, seen_at, with_outgoing}
use Rattle.h3_connection.specs.StreamSets.{Streams, set_stream, stream_at}
use Rattle.h3_messages.specs.declared.content.Content.{Content}
use Rattle.h3_c.proofs.UnheardUpdates.{unheard}

pub record View : Type 0 where
  -- what is seen of a request stream
  pub out : ℕ → Out → Out
  -- and of how much was taken of the own streams
  pub control : ℕ → ℕ
  pub encoder : ℕ → ℕ
  pub decoder : ℕ → ℕ

abbrev pub but : (ℕ → Out → Out) → ℕ → ℕ → Out → Out
but f q id o = if id == q then nothing_sent else f id o

-- Only the first stream of an id counts.
abbrev pub streams_seen : Streams Out → (ℕ → Out → Out) → Streams Out
streams_seen [] f = []
streams_seen ((q, o) ∷ streams) f = (q, f q o) ∷ streams_seen streams (but f q)

abbrev pub seen : View → EndpointHistory → EndpointHistory
seen T e =
    record e {
      outgoing = streams_seen e.outgoing T.out;
      order = no_order;
      peer = unheard e.peer;
      own = record e.own { control_taken = T.control e.own.control_taken; encoder_taken = T.encoder e.own.encoder_taken; decoder_taken = T.decoder e.own.decoder_taken };
    }

-- a part other than bytes of a body
abbrev pub IsSection : OwnPart → Type 0
IsSection (OwnBody bytes) = ⊥
IsSection _ = Unit {0}

-- What it keeps of a request stream: all but how much was taken, what sends first and payloads that are announced.
pub record Keeps (T : View) : Type 0 where
  pub new : (id : ℕ) → T.out id nothing_sent ≡ nothing_sent
  pub finished : (id : ℕ) (o : Out) → (T.out id o).is_finished ≡ o.is_finished
  pub reset : (id : ℕ) (o : Out) → (T.out id o).is_reset ≡ o.is_reset
  pub content : (id : ℕ) (o : Out) → (T.out id o).content ≡ o.content
  pub sender : (id : ℕ) (b : Bool) (o : Out) → seen_of b (T.out id o) ≡ seen_of b o
  pub part : (id : ℕ) (part : OwnPart) (o : Out) → IsSection part → record (T.out id o) { parts = (T.out id o).parts ++ part ∷ [] } ≡ T.out id (record o { parts = o.parts ++ part ∷ [] })
  pub said : (id : ℕ) (said : Content) (o : Out) → with_said (T.out id o) said ≡ T.out id (with_said o said)
  pub body : (id : ℕ) (bytes : List ℕ) (o : Out) → AreBytes bytes → with_body (T.out id o) bytes ≡ T.out id (with_body o bytes)
  pub finish : (id : ℕ) (o : Out) → with_finish (T.out id o) ≡ T.out id (with_finish o)
  pub with_reset : (id : ℕ) (o : Out) → with_reset (T.out id o) ≡ T.out id (with_reset o)

abbrev pub unordered_out : Out → Out
unordered_out o = record o { end_taken = false; precedence = default_precedence }

-- Where all that was taken counts.
abbrev pub plain : View
plain = record { out = λ id o. unordered_out o; control = λ n. n; encoder = λ n. n; decoder = λ n. n }

-- an id is one or another
if_else : {X : Type 0} (b : Bool) (x y z : X) → (b ≡ false → y ≡ z) → (if b then x else y) ≡ (if b then x else z)
if_else true x y z h = refl
if_else false x y z h = h refl

same_id : (n : ℕ) → (n == n) ≡ true
same_id n = grind (arith, common_steps)

pub other_way : (q id : ℕ) → (q == id) ≡ false → (id == q) ≡ false
other_way q id h = by (id == q) refl
  where
    by : (b : Bool) → (id == q) ≡ b → b ≡ false
    by false is = refl
    by true is = let same : id ≡ q = eqb-true id q is in absurd (let never : true ≡ false = sym (ap (λ n. n == id) (sym same) ∙ same_id id) ∙ h in cc)

pub by_id : (q id : ℕ) (P : Bool → Type 0) → (q ≡ id → P true) → ((q == id) ≡ false → P false) → P (q == id)
by_id q id P same differs = by (q == id) refl
  where
    by : (b : Bool) → (q == id) ≡ b → P b
    by true is = same (eqb-true q id is)
    by false is = differs is

but_other : (f : ℕ → Out → Out) (q id : ℕ) (o : Out) → (id == q) ≡ false → but f q id o ≡ f id o
but_other f q id o differs = ap (λ b. if b then nothing_sent else f id o) differs

map_same : (f g : Out → Out) (o : Option Out) → ((x : Out) → f x ≡ g x) → option_map f o ≡ option_map g o
map_same f g None h = refl
map_same f g (Some o) h = ap (λ x. Some x) (h o)

pub at_seen : (streams : Streams Out) (f : ℕ → Out → Out) (id : ℕ) → stream_at (streams_seen streams f) id ≡ option_map (f id) (stream_at streams id)
at_seen [] f id = refl
at_seen ((q, o) ∷ streams) f id =
    by_id q id (λ b. (if b then Some (f q o) else stream_at (streams_seen streams (but f q)) id) ≡ option_map (f id) (if b then Some o else stream_at streams id))
    (λ same. ap (λ n. Some (f n o)) same)
    (λ differs. at_seen streams (but f q) id ∙ map_same (but f q id) (f id) (stream_at streams id) (λ x. but_other f q id x (other_way q id differs)))

pub seen_alike : (streams : Streams Out) (f g : ℕ → Out → Out) → ((i : ℕ) (x : Out) → f i x ≡ g i x) → streams_seen streams f ≡ streams_seen streams g
seen_alike [] f g alike = refl
seen_alike ((q, o) ∷ streams) f g alike =
    ap (λ x. (q, x) ∷ streams_seen streams (but f q)) (alike q o)
    ∙ ap (λ l. (q, g q o) ∷ l) (seen_alike streams (but f q) (but g q) (λ i x. ap (λ y. if i == q then nothing_sent else y) (alike i x)))

-- a stream that is set is seen as another one
pub set_seen : (streams : Streams Out) (f g : ℕ → Out → Out) (id : ℕ) (o p : Out) → g id o ≡ p → ((i : ℕ) (x : Out) → (i == id) ≡ false → f i x ≡ g i x)
    → set_stream (streams_seen streams f) id p ≡ streams_seen (set_stream streams id o) g
set_seen [] f g id o p is others = ap (λ x. (id, x) ∷ []) (sym is)
set_seen ((q, y) ∷ streams) f g id o p is others =
    by_id q id (λ b. (if b then (id, p) ∷ streams_seen streams (but f q) else (q, f q y) ∷ set_stream (streams_seen streams (but f q)) id p) ≡ streams_seen (if b then (id, o) ∷ streams else (q, y) ∷ set_stream streams id o) g)
    (λ same. ap (λ x. (id, x) ∷ streams_seen streams (but f q)) (sym is)
    ∙ ap (λ n. (id, g id o) ∷ streams_seen streams (but f n)) same
    ∙ ap (λ l. (id, g id o) ∷ l) (seen_alike streams (but f id) (but g id) (λ i x. if_else (i == id) nothing_sent (f i x) (g i x) (λ differs. others i x differs))))
    (λ differs. ap (λ x. (q, x) ∷ set_stream (streams_seen streams (but f q)) id p) (others q y differs)
    ∙ ap (λ l. (q, g q y) ∷ l) (set_seen streams (but f q) (but g q) id o p (but_other g q id o (other_way q id differs) ∙ is)
    (λ i x other. ap (λ y. if i == q then nothing_sent else y) (others i x other))))

-- a stream that was there is seen as another one
pub seen_as : (streams : Streams Out) (f g : ℕ → Out → Out) (id : ℕ) (o p : Out) → stream_at streams id ≡ Some o → g id p ≡ f id o → ((i : ℕ) (x : Out) → (i == id) ≡ false → f i x ≡ g i x)
    → streams_seen (set_stream streams id p) g ≡ streams_seen streams f
seen_as [] f g id o p at is others = absurd (let never : None ≡ Some o = at in cc)
seen_as ((q, y) ∷ streams) f g id o p at is others =
    by_id q id (λ b. (if b then Some y else stream_at streams id) ≡ Some o → streams_seen (if b then (id, p) ∷ streams else (q, y) ∷ set_stream streams id p) g ≡ (q, f q y) ∷ streams_seen streams (but f q))
    (λ same here.
    let first : y ≡ o = ap (λ x. unwrap_or x y) here in
    ap (λ x. (id, x) ∷ streams_seen streams (but g id)) (is ∙ ap (λ x. f id x) (sym first))
    ∙ ap (λ l. (id, f id y) ∷ l) (seen_alike streams (but g id) (but f id) (λ i x. if_else (i == id) nothing_sent (g i x) (f i x) (λ differs. sym (others i x differs))))
    ∙ ap (λ n. (n, f n y) ∷ streams_seen streams (but f n)) (sym same))
    (λ differs behind. ap (λ x. (q, x) ∷ streams_seen (set_stream streams id p) (but g q)) (sym (others q y differs))
    ∙ ap (λ l. (q, f q y) ∷ l) (seen_as streams (but f q) (but g q) id o p behind
    (but_other g q id p (other_way q id differs) ∙ is ∙ sym (but_other f q id o (other_way q id differs)))
    (λ i x other. ap (λ y. if i == q then nothing_sent else y) (others i x other))))
    at

-- or one that is not there
pub seen_absent : (streams : Streams Out) (f g : ℕ → Out → Out) (id : ℕ) → stream_at streams id ≡ None → ((i : ℕ) (x : Out) → (i == id) ≡ false → f i x ≡ g i x) → streams_seen streams f ≡ streams_seen streams g
seen_absent [] f g id at others = refl
seen_absent ((q, y) ∷ streams) f g id at others =
    by_id q id (λ b. (if b then Some y else stream_at streams id) ≡ None → streams_seen ((q, y) ∷ streams) f ≡ streams_seen ((q, y) ∷ streams) g)
    (λ same here. absurd (let never : Some y ≡ None = here in cc))
    (λ differs behind. ap (λ x. (q, x) ∷ streams_seen streams (but f q)) (others q y differs)
    ∙ ap (λ l. (q, g q y) ∷ l) (seen_absent streams (but f q) (but g q) id behind (λ i x other. ap (λ y. if i == q then nothing_sent else y) (others i x other))))
    at

-- It is seen of one of which nothing is known of what sends first as of itself.
pub seen_plainly : (streams : Streams Out) (f g : ℕ → Out → Out) → ((i : ℕ) (x : Out) → f i (g i x) ≡ f i x) → streams_seen (streams_seen streams g) f ≡ streams_seen streams f
seen_plainly [] f g alike = refl
seen_plainly ((q, o) ∷ streams) f g alike =
    ap (λ x. (q, x) ∷ streams_seen (streams_seen streams (but g q)) (but f q)) (alike q o)
    ∙ ap (λ l. (q, f q o) ∷ l) (seen_plainly streams (but f q) (but g q) (λ i x. hidden i x (i == q)))
  where
    hidden : (i : ℕ) (x : Out) (b : Bool) → (if b then nothing_sent else f i (if b then nothing_sent else g i x)) ≡ (if b then nothing_sent else f i x)
    hidden i x true = refl
    hidden i x false = alike i x

module _ (T : View) (K : Keeps T) where
  pub with_seen : (e : EndpointHistory) (id : ℕ) (o : Out) → with_outgoing (seen T e) id (T.out id o) ≡ seen T (with_outgoing e id o)
  with_seen e id o = ap (λ l. record (seen T e) { outgoing = l }) (set_seen e.outgoing T.out T.out id o (T.out id o) refl (λ i x differs. refl))

  or_nothing : (id : ℕ) (o : Option Out) → unwrap_or (option_map (T.out id) o) nothing_sent ≡ T.out id (unwrap_or o nothing_sent)
  or_nothing id None = sym (K.new id)
  or_nothing id (Some o) = refl

  pub outgoing_seen : (e : EndpointHistory) (id : ℕ) → outgoing_at (seen T e) id ≡ T.out id (outgoing_at e id)
  outgoing_seen e id = ap (λ o. unwrap_or o nothing_sent) (at_seen e.outgoing T.out id) ∙ or_nothing id (stream_at e.outgoing id)

  mapped_there : (id : ℕ) (o : Option Out) → is_some (option_map (T.out id) o) ≡ is_some o
  mapped_there id None = refl
  mapped_there id (Some o) = refl

  pub open_seen : (e : EndpointHistory) (id : ℕ) → is_open (seen T e) id ≡ is_open e id
  open_seen e id = ap is_some (at_seen e.outgoing T.out id) ∙ mapped_there id (stream_at e.outgoing id)

  pub sender_seen : (e : EndpointHistory) (id : ℕ) → seen_at (seen T e) id ≡ seen_at e id
  sender_seen e id =
      ap (λ b. seen_of b (outgoing_at (seen T e) id)) (open_seen e id) ∙ ap (λ o. seen_of (is_open e id) o) (outgoing_seen e id) ∙ K.sender id (is_open e id) (outgoing_at e id)

  pub content_seen : (e : EndpointHistory) (id : ℕ) → (outgoing_at (seen T e) id).content ≡ (outgoing_at e id).content
  content_seen e id = ap (λ (o : Out). o.content) (outgoing_seen e id) ∙ K.content id (outgoing_at e id)
