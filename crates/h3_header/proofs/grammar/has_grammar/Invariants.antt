use Rattle.std.proofs.Common.{ℕ, ◌<◌, take, get_or}
use Rattle.http_uri.specs.Grammar.{MayFollow}
use Rattle.http_uri.proofs.AuthorityLemmas.{Tracks}
use Rattle.h3_header.proofs.grammar.has_grammar.Given as goal

abbrev pub invariant-bytes : goal.invariant-bytes
invariant-bytes l =
    ((k : ℕ) → k < l.byte-index → MayFollow (take k l.text) (get_or l.text k 0))
    × Tracks (take l.byte-index l.text) l.colons l.opened l.closed l.percent
