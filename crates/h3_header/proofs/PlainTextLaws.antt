-- Texts of plain bytes alone: such an authority is the name of a host, and such a path has no query and no fragment.
use Rattle.std.proofs.Common.{◌≡◌, ◌≢◌, ℕ, zero, suc, ◌-◌, ◌<◌, ◌≤◌, ◌==◌, nat_lt, Bool, true, false, not, ◌&&◌, List, length, get_or, take, take_all, refl, ap, sym, subst, ◌∙◌, arith, inl, inr, add-one, below_more, bytes_eq, codes, ◌+◌, drop, Option, Some, None, length-take, length-drop, get_or-take, get_or-drop}
use Rattle.std.specs.Prelude.{IfSome}
use Rattle.std.specs.List.{list_all}
use Rattle.std.proofs.lemmas.Bool.{and_from, cases_eq, cases_lt, leb-true, lt-ltb, ltb-true, ltb-false, eqb-true, eq-eqb}
use Rattle.std.proofs.lemmas.List.Sums.{AllPass-from_list_all}
use Rattle.std.proofs.lemmas.Slice.Eq.{bytes_eq-Decides}
use Rattle.std.proofs.lemmas.Str.{IsUtf8-from_ascii}
use Rattle.http_uri.specs.ByteClasses.{index_of, is_delimiter, is_path_byte, is_query_byte, is_authority_byte, split_once_front, split_once_back}
use Rattle.http_uri.specs.Grammar.{AllPass, MayFollow, IsAuthority, IsPathAndQuery}
use Rattle.http_uri.proofs.AuthorityLemmas.{Tracks, step_other}
use Rattle.http_uri.proofs.RunLemmas.{AllPass-from, IsAscii-pass, index_of_is, index_of_found}
use Rattle.h3_header.specs.HeadTests.{is_host, is_host_byte, is_authority, is_plain_path, is_plain_path_byte, is_plain_query, is_plain_query_byte, are_plain_parts, is_path_input, is_scheme}
use Rattle.h3_header.proofs.HeadTestLaws.{authority, path_input}

both : (a b : Bool) → (a && b) ≡ true → (a ≡ true) × (b ≡ true)
both true true e = (refl, refl)
both true false e = absurd (cc)
both false b e = absurd (cc)

-- a text of one class, byte by byte
each : (test : ℕ → Bool) (text : List ℕ) → list_all test text ≡ true → (k : ℕ) → k < length text → test (get_or text k 0) ≡ true
each test text all k inside = AllPass-from_list_all test text all k 0 inside

differs : (b c : ℕ) → not (b == c) ≡ true → b ≢ c
differs b c e = λ same. let no : false ≡ true = sym (ap not (eq-eqb b c same)) ∙ e in cc

record IsHostByte (b : ℕ) : Type 0 where
  pub byte : is_authority_byte b ≡ true
  pub percent : b ≢ 37
  pub colon : b ≢ 58
  pub at_sign : b ≢ 64
  pub left : b ≢ 91
  pub right : b ≢ 93

host_byte : (b : ℕ) → is_host_byte b ≡ true → IsHostByte b
host_byte b e =
    let p = both _ _ e in
    let q = both _ _ p.1 in
    let r = both _ _ q.1 in
    let s = both _ _ r.1 in
    let t = both _ _ s.1 in
    record { byte = p.0; percent = differs b 37 q.0; colon = differs b 58 r.0; at_sign = differs b 64 s.0; left = differs b 91 t.0; right = differs b 93 t.1 }

-- the scan of an authority counts nothing in the name of a host
host_scan : (text : List ℕ) (n : ℕ) → n ≤ length text → ((k : ℕ) → k < length text → is_host_byte (get_or text k 0) ≡ true)
    → ((k : ℕ) → k < n → MayFollow (take k text) (get_or text k 0)) × Tracks (take n text) 0 false false false
host_scan text zero within all = (
  λ k none. absurd (omega (arith, none)),
  record { colons_is = refl; few_colons = omega arith; opened_is = refl; one_opening = omega arith; closed_is = refl; one_closing = omega arith; percent_is = refl },
)
host_scan text (suc n) within all =
    let before = host_scan text n (omega (arith, within)) all in
    let inside : n < length text = omega (arith, within) in
    let b = host_byte (get_or text n 0) (all n inside) in
    let step = step_other text n inside 0 false false false before.1 b.byte b.percent b.colon b.left b.right b.at_sign in
    subst (λ m. ((k : ℕ) → k < m → MayFollow (take k text) (get_or text k 0)) × Tracks (take m text) 0 false false false) (add-one n) (below_more _ _ before.0 step.0, step.1)

host_has_grammar : (text : List ℕ) → 0 < length text → ((k : ℕ) → k < length text → is_host_byte (get_or text k 0) ≡ true) → IsAuthority text
host_has_grammar text some all =
    let scan = host_scan text (length text) (omega arith) all in
    let t : Tracks text 0 false false false = subst (λ s. Tracks s 0 false false false) (take_all (length text) text (omega arith)) scan.1 in
    record {
      nonempty = some;
      bytes = scan.0;
      closed = omega (arith, ltb-false _ _ (sym t.opened_is), ltb-false _ _ (sym t.closed_is));
      one_colon = omega (arith, t.colons_is);
      no_percent = omega (arith, ltb-false _ _ (sym t.percent_is));
      has_host = (host_byte _ (all (length text - 1) (omega (arith, some)))).at_sign;
    }

pub host_is_authority : (text : List ℕ) → is_host text ≡ true → is_authority text ≡ true
host_is_authority text e =
    let p = both _ _ e in
    (authority text).1 (host_has_grammar text (ltb-true 0 (length text) p.0) (each is_host_byte text p.1))

plain_byte : (b : ℕ) → is_plain_path_byte b ≡ true → (is_path_byte b ≡ true) × (b < 128) × (b ≢ 35) × (b ≢ 63)
plain_byte b e =
    let p = both _ _ e in
    (p.0, ltb-true b 128 p.1, (λ is. let no : is_path_byte 35 ≡ true = subst (λ n. is_path_byte n ≡ true) is p.0 in cc), (λ is. let no : is_path_byte 63 ≡ true = subst (λ n. is_path_byte n ≡ true) is p.0 in cc))

-- none of its bytes is the one sought
absent : (c : ℕ) (text : List ℕ) → ((k : ℕ) → k < length text → get_or text k 0 ≢ c) → index_of c text ≡ length text
absent c text none = index_of_is c text (length text) (omega arith) none (λ past. absurd (omega (arith, past)))

front_whole : (c : ℕ) (text : List ℕ) → index_of c text ≡ length text → split_once_front c text ≡ text
front_whole c text is = take_all (index_of c text) text (omega (arith, is))

nothing_behind : (c : ℕ) (text : List ℕ) → index_of c text ≡ length text → split_once_back c text ≡ None
nothing_behind c text is = by (nat_lt (index_of c text) (length text)) refl
  where
    by : (b : Bool) → nat_lt (index_of c text) (length text) ≡ b → split_once_back c text ≡ None
    by false less = rw less refl
    by true less = absurd (omega (arith, is, ltb-true _ _ less))

pub path_alone : (text : List ℕ) → list_all is_plain_path_byte text ≡ true → are_plain_parts text ≡ true
path_alone text all =
    let no_query = absent 63 text (λ k inside. (plain_byte (get_or text k 0) (each is_plain_path_byte text all k inside)).3) in
    and_from _ _ (subst (λ t. list_all is_plain_path_byte t ≡ true) (sym (front_whole 63 text no_query)) all)
    (subst (λ o. is_plain_query o ≡ true) (sym (nothing_behind 63 text no_query)) refl)

by_slash : (b : ℕ) → b ≡ 47 → is_delimiter b ≡ true
by_slash b is = subst (λ n. is_delimiter n ≡ true) (sym is) refl

-- a path with no `#` is what is kept of it
kept_whole : (text : List ℕ) → get_or text 0 0 ≡ 47 → length text ≤ 65534 → ((k : ℕ) → k < length text → get_or text k 0 ≢ 35) → IsPathAndQuery text → is_path_input text ≡ true
kept_whole text slash short no_fragment is =
    (path_input text).1 (record {
      start = inr (by_slash (get_or text 0 0) slash);
      short = short;
      kept = subst IsPathAndQuery (sym (front_whole 35 text (absent 35 text no_fragment))) is;
    })

query_byte : (b : ℕ) → is_plain_query_byte b ≡ true → (is_query_byte b ≡ true) × (b < 128) × (b ≢ 35)
query_byte b e =
    let p = both _ _ e in
    (p.0, ltb-true b 128 p.1, λ is. let no : is_query_byte 35 ≡ true = subst (λ n. is_query_byte n ≡ true) is p.0 in cc)

query_passes : (o : Option (List ℕ)) → is_plain_query o ≡ true → IfSome o (AllPass is_query_byte)
query_passes None e = tt
query_passes (Some query) e = AllPass-from is_query_byte query (λ k inside. (query_byte (get_or query k 0) (each is_plain_query_byte query e k inside)).0)

behind : (text : List ℕ) → index_of 63 text < length text → split_once_back 63 text ≡ Some (drop (index_of 63 text + 1) text)
behind text there = rw (lt-ltb _ _ there) refl

abbrev IsPlainAt : List ℕ → ℕ → Type 0
IsPlainAt text k = (get_or text k 0 < 128) × (get_or text k 0 ≢ 35)

plain_as : (text : List ℕ) (k b : ℕ) → b ≡ get_or text k 0 → b < 128 → b ≢ 35 → IsPlainAt text k
plain_as text k b is low other = (subst (λ n. n < 128) is low, subst (λ n. n ≢ 35) is other)

plain_before : (text : List ℕ) (at k : ℕ) → k < at → k < length text → list_all is_plain_path_byte (take at text) ≡ true → IsPlainAt text k
plain_before text at k early inside all =
    let byte = plain_byte (get_or (take at text) k 0) (each is_plain_path_byte (take at text) all k (omega (arith, length-take at text, inside, early))) in
    plain_as text k (get_or (take at text) k 0) (get_or-take at text k 0 early) byte.1 byte.2

plain_behind : (text : List ℕ) (at k : ℕ) → at < k → k < length text → list_all is_plain_query_byte (drop (at + 1) text) ≡ true → IsPlainAt text k
plain_behind text at k late inside all =
    let back : at + 1 + (k - (at + 1)) ≡ k = omega (arith, late) in
    let byte = query_byte (get_or (drop (at + 1) text) (k - (at + 1)) 0) (each is_plain_query_byte (drop (at + 1) text) all (k - (at + 1)) (omega (arith, length-drop (at + 1) text, inside, late))) in
    plain_as text k (get_or (drop (at + 1) text) (k - (at + 1)) 0) (get_or-drop (at + 1) text (k - (at + 1)) 0 ∙ ap (λ n. get_or text n 0) back) byte.1 byte.2

-- each byte of such a path is one of ASCII, and none is `#`
parts_each : (text : List ℕ) → are_plain_parts text ≡ true → (k : ℕ) → k < length text → IsPlainAt text k
parts_each text e k inside =
    let p = both _ _ e in
    elim (cases_lt k (index_of 63 text)) [
      | inl early ↦ plain_before text (index_of 63 text) k early inside p.0
      | inr late ↦ elim (cases_eq k (index_of 63 text)) [
        | inl here ↦
            let found = index_of_found 63 text (omega (arith, here, inside)) in
            plain_as text k 63 (sym found ∙ ap (λ n. get_or text n 0) (sym here)) (omega arith) (λ same. absurd (omega (arith, same)))
        | inr other ↦
            let past : index_of 63 text < k = omega (arith, late, other) in
            plain_behind text (index_of 63 text) k past inside (subst (λ o. is_plain_query o ≡ true) (behind text (omega (arith, past, inside))) p.1)
      ]
    ]

pub plain_is_path_input : (text : List ℕ) → is_plain_path text ≡ true → is_path_input text ≡ true
plain_is_path_input text e =
    let p = both _ _ e in
    let q = both _ _ p.1 in
    let parts = both _ _ q.1 in
    let slash = eqb-true _ _ p.0 in
    let short = leb-true (length text) 65534 q.0 in
    let each_is = parts_each text q.1 in
    let front = split_once_front 63 text in
    kept_whole text slash short (λ k inside. (each_is k inside).1) (record {
      start = inr (inr (inl slash));
      path = AllPass-from is_path_byte front (λ k inside. (plain_byte (get_or front k 0) (each is_plain_path_byte front parts.0 k inside)).0);
      query = query_passes (split_once_back 63 text) parts.1;
      utf8 = IsUtf8-from_ascii text (IsAscii-pass (λ b. nat_lt b 128) text (λ b low. ltb-true b 128 low) (λ k inside. lt-ltb _ _ (each_is k inside).0));
      short = short;
    })

pub https_is_scheme : (text : List ℕ) → bytes_eq text (codes "https") ≡ true → is_scheme text ≡ true
https_is_scheme text e = subst (λ t. is_scheme t ≡ true) (sym ((bytes_eq-Decides text (codes "https")).0 e)) refl
