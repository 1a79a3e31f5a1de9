-- The field list of a valid head is read as a head with that list.
use Rattle.std.proofs.Common.{◌≡◌, ℕ, Bool, true, List, [], ◌++◌, codes, Option, Some, None, IfSome, option_map, refl, sym, ap, ap₂, ◌∙◌, subst, rules}
use Rattle.http_header.specs.Token.{IsToken}
use Rattle.http.specs.StatusCode.{IsStatusCode, code_digits}
use Rattle.http_uri.specs.Grammar.{IsScheme, IsAuthority, IsPathAndQuery, or_slash}
use Rattle.h3_header.specs.ProtocolText.{IsProtocolBy}
use Rattle.http_header.specs.FieldValue.{FieldValue}
use Rattle.http_header.specs.HeaderMap.{Entries}
use Rattle.h3_header.specs.Parts.{head_of_parts}
use Rattle.h3_header.specs.declared.headers.pseudo.Pseudo.{Pseudo}
use Rattle.h3_header.specs.Head.{Head, trailer_head, optional_field, head_fields}
use Rattle.h3_header.specs.Reads.{kind_of, status_number, head_of_fields}
use Rattle.h3_header.specs.ReadsBack.{IsValidPseudo, IsValidMap, ReadsBackBy, as_read}
use Rattle.h3_header.specs.HeadTests.{takes_protocol}
use Rattle.h3_header.proofs.HeadTestLaws.{protocol_taken}
use Rattle.h3_header.proofs.PathLemmas.{IsPathAndQuery-or_slash, IsPathInput-or_slash, without_fragment_of, or_slash-or_slash}
use Rattle.h3_header.proofs.MapLemmas.{Reading, Reading-none, Reading-one, Reading-append, regular_fields-unmarked, Reading-map}

-- a head by its parts, with no regular field yet
abbrev pub parts : Option (List ℕ) → Option (List ℕ) → Option (List ℕ) → Option (List ℕ) → Option ℕ → Option (List ℕ) → Head
parts m s a p n t = record { method = m; scheme = s; authority = a; path = p; status = n; protocol = t; regular = [] }

read_method : (any : Bool) (m : Option (List ℕ)) → IfSome m IsToken
    → Reading any (parts None None None None None None) (optional_field (codes ":method") m) (parts m None None None None None)
unfolding kind_of
read_method any None valid = Reading-none any _
read_method any (Some v) valid = Reading-one any _ _ _ [] (record { name = tt; value = valid; room = tt }) (Reading-none any _)

read_scheme : (any : Bool) (m s : Option (List ℕ)) → IfSome s IsScheme
    → Reading any (parts m None None None None None) (optional_field (codes ":scheme") s) (parts m s None None None None)
unfolding kind_of
read_scheme any m None valid = Reading-none any _
read_scheme any m (Some v) valid = Reading-one any _ _ _ [] (record { name = tt; value = valid; room = tt }) (Reading-none any _)

read_authority : (any : Bool) (m s a : Option (List ℕ)) → IfSome a IsAuthority
    → Reading any (parts m s None None None None) (optional_field (codes ":authority") a) (parts m s a None None None)
unfolding kind_of
read_authority any m s None valid = Reading-none any _
read_authority any m s (Some v) valid = Reading-one any _ _ _ [] (record { name = tt; value = valid; room = tt }) (Reading-none any _)

read_path : (any : Bool) (m s a p : Option (List ℕ)) → IfSome p IsPathAndQuery
    → Reading any (parts m s a None None None) (optional_field (codes ":path") (option_map or_slash p)) (parts m s a (option_map or_slash p) None None)
unfolding kind_of
read_path any m s a None valid = Reading-none any _
read_path any m s a (Some v) valid =
    Reading-one any _ _ _ [] (record { name = tt; value = IsPathInput-or_slash v valid; room = tt })
    (subst (λ t. Reading any (parts m s a (Some t) None None) [] (parts m s a (Some (or_slash v)) None None)) (sym (without_fragment_of (or_slash v) (IsPathAndQuery-or_slash v valid))) (Reading-none any _))

status_number-code_digits : (n : ℕ) → IsStatusCode n → status_number (code_digits n) ≡ n
status_number-code_digits n is = search rules

read_status : (any : Bool) (m s a p : Option (List ℕ)) (n : Option ℕ) → IfSome n IsStatusCode
    → Reading any (parts m s a p None None) (optional_field (codes ":status") (option_map code_digits n)) (parts m s a p n None)
unfolding kind_of
read_status any m s a p None valid = Reading-none any _
read_status any m s a p (Some n) valid =
    Reading-one any _ _ _ [] (record { name = tt; value = (n, valid, refl); room = tt })
    (subst (λ c. Reading any (parts m s a p (Some c) None) [] (parts m s a p (Some n) None)) (sym (status_number-code_digits n valid)) (Reading-none any _))

read_protocol : (any : Bool) (m s a p : Option (List ℕ)) (n : Option ℕ) (t : Option (List ℕ)) → IfSome t (IsProtocolBy any)
    → Reading any (parts m s a p n None) (optional_field (codes ":protocol") t) (parts m s a p n t)
unfolding kind_of
read_protocol any m s a p n None valid = Reading-none any _
read_protocol any m s a p n (Some v) valid = Reading-one any _ _ _ [] (record { name = tt; value = valid; room = tt }) (Reading-none any _)

same_path : (p : Option (List ℕ)) → option_map or_slash (option_map or_slash p) ≡ option_map or_slash p
same_path None = refl
same_path (Some t) = ap Some (or_slash-or_slash t)

-- all of them but `:protocol`
pub Reading-front : (any : Bool) (q : Pseudo) → IsValidPseudo any q
    → Reading any (trailer_head [])
    (optional_field (codes ":method") q.method ++ optional_field (codes ":scheme") q.scheme ++ optional_field (codes ":authority") q.authority
    ++ optional_field (codes ":path") (option_map or_slash q.path) ++ optional_field (codes ":status") (option_map code_digits q.status))
    (parts q.method q.scheme q.authority (option_map or_slash q.path) q.status None)
Reading-front any q valid =
    Reading-append any _ _ _ _ _
    (Reading-append any _ _ _ _ _
    (Reading-append any _ _ _ _ _
    (Reading-append any _ _ _ _ _ (read_method any q.method valid.method) (read_scheme any q.method q.scheme valid.scheme))
    (read_authority any q.method q.scheme q.authority valid.authority))
    (read_path any q.method q.scheme q.authority q.path valid.path))
    (read_status any q.method q.scheme q.authority (option_map or_slash q.path) q.status valid.status)

Reading-back : (any : Bool) (q : Pseudo) (m : Entries FieldValue) → IsValidPseudo any q → IsValidMap m
    → Reading any (trailer_head []) (head_fields (head_of_parts q m)) (as_read (head_of_parts q m))
Reading-back any q m valid map =
    Reading-append any _ _ _ _ _
    (Reading-append any _ _ _ _ _ (Reading-front any q valid)
    (read_protocol any q.method q.scheme q.authority (option_map or_slash q.path) q.status q.protocol valid.protocol))
    (Reading-map any (parts q.method q.scheme q.authority (option_map or_slash q.path) q.status q.protocol) m map.map map.fields)

same_fields : (h : Head) → head_fields (as_read h) ≡ head_fields h
same_fields h =
    ap₂ (λ p q. optional_field (codes ":method") h.method ++ optional_field (codes ":scheme") h.scheme
    ++ optional_field (codes ":authority") h.authority ++ optional_field (codes ":path") p
    ++ optional_field (codes ":status") (option_map code_digits h.status) ++ optional_field (codes ":protocol") h.protocol ++ q)
    (same_path h.path) (regular_fields-unmarked h.regular)

-- the field list of valid parts reads back to a head with that list
pub reads_back : (any : Bool) (q : Pseudo) (m : Entries FieldValue) → IsValidPseudo any q → IsValidMap m → ReadsBackBy any (head_fields (head_of_parts q m))
reads_back any q m valid map = let r = Reading-back any q m valid map in (r.accepts, ap head_fields r.makes ∙ same_fields (head_of_parts q m))

-- and this is the head that the list makes
pub reads_as : (any : Bool) (q : Pseudo) (m : Entries FieldValue) → IsValidPseudo any q → IsValidMap m
    → head_of_fields (head_fields (head_of_parts q m)) ≡ as_read (head_of_parts q m)
reads_as any q m valid map = (Reading-back any q m valid map).makes

-- what its type holds, where its protocol is taken
pub pseudo_taken : (any : Bool) (q : Pseudo) → IsValidPseudo true q → takes_protocol any q.protocol ≡ true → IsValidPseudo any q
pseudo_taken any q valid taken =
    record { method = valid.method; scheme = valid.scheme; authority = valid.authority; path = valid.path; status = valid.status; protocol = (protocol_taken any q.protocol).0 taken }
