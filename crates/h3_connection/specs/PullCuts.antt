-- Receivers of a request stream that differ only in where what waits is cut into pieces, and what pulls of them answer.
use Rattle.std.specs.Prelude.{◌≡◌, ◌⊎◌, ℕ, ◌+◌, ◌<◌, List, [], ◌++◌, length, Option, Some, None}
use Rattle.std.specs.List.{concat, AllByRecursion}
use Rattle.h3_connection.specs.declared.event.Item.TheVariants as item
use Rattle.h3_connection.specs.declared.event.Pull.{Pull}
use Rattle.h3_connection.specs.declared.event.Pull.TheVariants as pull
use Rattle.h3_connection.specs.Delivering.{with_incoming}
use Rattle.h3_connection.specs.Endpoint.{EndpointHistory}
use Rattle.h3_connection.specs.Incoming.{Incoming}
use Rattle.h3_connection.specs.Pulling.{Pulled}
use Rattle.h3_connection.specs.StreamSets.{stream_at}

-- the bytes of a piece of a body or of a session
abbrev pub piece_in : Pull → Option (List ℕ)
piece_in (pull.Item (item.Body bytes)) = Some bytes
piece_in (pull.Item (item.Raw bytes)) = Some bytes
piece_in _ = None

-- no piece is empty, as deliveries leave them
abbrev pub HaveBytes : List (List ℕ) → Type 0
HaveBytes pieces = AllByRecursion (λ (p : List ℕ). 0 < length p) pieces

pub record DifferInCuts (i j : Incoming) : Type 0 where
  pub bytes : concat j.unread ≡ concat i.unread
  pub same : j ≡ record i { unread = j.unread }
  pub first : HaveBytes i.unread
  pub second : HaveBytes j.unread

abbrev pub IsFront : List ℕ → List ℕ → Type 0
IsFront x y = (more : List ℕ) × (y ≡ x ++ more)

-- Both handed out a piece, one a front of the other. What goes on from there is the same: the piece and what is left behind it.
pub record HandOut (x y : List ℕ) (p q : Pulled) : Type 0 where
  pub front : IsFront x y ⊎ IsFront y x
  pub bytes : x ++ concat p.incoming.unread ≡ y ++ concat q.incoming.unread
  pub same : q.incoming ≡ record p.incoming { unread = q.incoming.unread; body_left = q.incoming.body_left }
  -- nothing is said to the peer's encoder
  pub replies : (p.replies ≡ []) × (q.replies ≡ [])
  pub first : HaveBytes p.incoming.unread
  pub second : HaveBytes q.incoming.unread

-- Two pulls answer the same and leave receivers that differ only in cuts, or both hand out a piece of one body or of one session.
pub data PullsAlike (p q : Pulled) : Type 0 where
  Same : p.answer ≡ q.answer → p.replies ≡ q.replies → DifferInCuts p.incoming q.incoming → PullsAlike p q
  Bodies : (x y : List ℕ) → p.answer ≡ pull.Item (item.Body x) → q.answer ≡ pull.Item (item.Body y)
      → length x + p.incoming.body_left ≡ length y + q.incoming.body_left → HandOut x y p q → PullsAlike p q
  Raws : (x y : List ℕ) → p.answer ≡ pull.Item (item.Raw x) → q.answer ≡ pull.Item (item.Raw y)
      → p.incoming.body_left ≡ q.incoming.body_left → HandOut x y p q → PullsAlike p q

-- Nothing of two endpoints differs but the cuts of one request stream.
pub record DifferInOneStream (id : ℕ) (one two : EndpointHistory) : Type 0 where
  pub first : Incoming
  pub second : Incoming
  pub at_first : stream_at one.incoming id ≡ Some first
  pub at_second : stream_at two.incoming id ≡ Some second
  pub differ : DifferInCuts first second
  pub others : one ≡ with_incoming two id first
