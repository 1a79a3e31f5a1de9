-- A pull with sessions of WebTransport beside an endpoint.
use Rattle.std.specs.Prelude.{◌≡◌, ℕ, false}
use Rattle.h3_connection.specs.Lists.{list_of, pull_of}
use Rattle.h3_session.specs.Listing.{ListsNext}
use Rattle.h3_webtransport.specs.Joint.{is_read}
use Rattle.h3_webtransport.specs.Receiving.{PullsOn}
use Rattle.h3_c.specs.Items.{shown}
use Rattle.h3_c.specs.Numbers.{ok}
use Rattle.h3_c.specs.Seen.{Seen}
use Rattle.h3_c.specs.declared.items.PulledItem.{PulledItem}
use Rattle.h3_c.specs.declared.numbers.Told.{Told}

-- `h3_pull`
pub record PullsBeside (id : ℕ) (n : Told) (v w : Seen) (given : PulledItem) : Type 0 where
  pub done : n ≡ ok
  pub pulled : PullsOn v.endpoint w.endpoint v.sessions w.sessions id (pull_of w.last)
  pub list : is_read v.sessions id ≡ false → ListsNext v.endpoint id (list_of w.last)
  pub given_so : given ≡ shown w.last
  pub events : w.events ≡ v.events
