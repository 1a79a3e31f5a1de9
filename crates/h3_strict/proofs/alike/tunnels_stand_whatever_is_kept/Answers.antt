use Rattle.h3_strict.proofs.BehindReads.{fits_read, what_comes_fits}
use Rattle.h3_strict.proofs.TunnelKept.{holds_behind}
use Rattle.h3_strict.proofs.alike.tunnels_stand_whatever_is_kept.Goals as goal

pub returns-clause-holds : goal.returns-clause-holds
returns-clause-holds c = λ setup strict made choice. holds_behind c.what_is_cited_holds.ensures setup made strict choice

pub returns-clause-reads : goal.returns-clause-reads
returns-clause-reads c = λ setup w side e next a made behind plain. fits_read e a next (what_comes_fits c.what_is_cited_holds.ensures.streams setup made w side e a behind) plain
