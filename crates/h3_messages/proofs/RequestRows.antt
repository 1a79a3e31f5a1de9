-- Worked rows of requests: a field list and the rule that it breaks, computed by the definitions. Each row names the RFC section that asks it.
use Rattle.std.specs.Prelude.{◌≡◌, true, false, [], ◌∷◌, codes, Some, None, refl}
use Rattle.h3_messages.specs.Messages.{violation_of_request}
use Rattle.h3_messages.specs.declared.violation.Violation.TheVariants.{PseudoOrder, RepeatedPseudo, WrongPseudo, MissingPseudo, ConnectionField, Protocol, Connect, Scheme, Authority, Path, ContentLength, Value}
use Rattle.h3_messages.proofs.Written.{field}

-- plain GET: 9114 4.3.1
pub row_1 : violation_of_request true (field (codes ":method") (codes "GET") ∷ field (codes ":scheme") (codes "https") ∷ field (codes ":authority") (codes "a") ∷ field (codes ":path") (codes "/") ∷ []) ≡ None
unfolding violation_of_request
row_1 = refl

-- pseudo in another order: 9114 4.3
pub row_2 : violation_of_request true (field (codes ":path") (codes "/") ∷ field (codes ":authority") (codes "a") ∷ field (codes ":scheme") (codes "https") ∷ field (codes ":method") (codes "GET") ∷ []) ≡ None
unfolding violation_of_request
row_2 = refl

-- with regular fields: 9114 4.3
pub row_3 : violation_of_request true (field (codes ":method") (codes "GET") ∷ field (codes ":scheme") (codes "https") ∷ field (codes ":authority") (codes "a") ∷ field (codes ":path") (codes "/") ∷ field (codes "x") (codes "1") ∷ field (codes "x") (codes "2") ∷ field (codes "accept") (codes "*/*") ∷ []) ≡ None
unfolding violation_of_request
row_3 = refl

-- scheme http: 9114 4.3.1
pub row_4 : violation_of_request true (field (codes ":method") (codes "GET") ∷ field (codes ":scheme") (codes "http") ∷ field (codes ":authority") (codes "a") ∷ field (codes ":path") (codes "/") ∷ []) ≡ None
unfolding violation_of_request
row_4 = refl

-- scheme HTTPS: 3986 3.1
pub row_5 : violation_of_request true (field (codes ":method") (codes "GET") ∷ field (codes ":scheme") (codes "HTTPS") ∷ field (codes ":authority") (codes "a") ∷ field (codes ":path") (codes "/") ∷ []) ≡ None
unfolding violation_of_request
row_5 = refl

-- path with query: 9114 4.3.1
pub row_6 : violation_of_request true (field (codes ":method") (codes "GET") ∷ field (codes ":scheme") (codes "https") ∷ field (codes ":authority") (codes "a") ∷ field (codes ":path") (codes "/a?x=1") ∷ []) ≡ None
unfolding violation_of_request
row_6 = refl

-- path /?: 9114 4.3.1
pub row_7 : violation_of_request true (field (codes ":method") (codes "GET") ∷ field (codes ":scheme") (codes "https") ∷ field (codes ":authority") (codes "a") ∷ field (codes ":path") (codes "/?") ∷ []) ≡ None
unfolding violation_of_request
row_7 = refl

-- path //: 9110 4.1
pub row_8 : violation_of_request true (field (codes ":method") (codes "GET") ∷ field (codes ":scheme") (codes "https") ∷ field (codes ":authority") (codes "a") ∷ field (codes ":path") (codes "//") ∷ []) ≡ None
unfolding violation_of_request
row_8 = refl

-- OPTIONS *: 9114 4.3.1
pub row_9 : violation_of_request true (field (codes ":method") (codes "OPTIONS") ∷ field (codes ":scheme") (codes "https") ∷ field (codes ":authority") (codes "a") ∷ field (codes ":path") (codes "*") ∷ []) ≡ None
unfolding violation_of_request
row_9 = refl

-- OPTIONS /: 9114 4.3.1
pub row_10 : violation_of_request true (field (codes ":method") (codes "OPTIONS") ∷ field (codes ":scheme") (codes "https") ∷ field (codes ":authority") (codes "a") ∷ field (codes ":path") (codes "/") ∷ []) ≡ None
unfolding violation_of_request
row_10 = refl

-- HEAD: 9110 9.3.2
pub row_11 : violation_of_request true (field (codes ":method") (codes "HEAD") ∷ field (codes ":scheme") (codes "https") ∷ field (codes ":authority") (codes "a") ∷ field (codes ":path") (codes "/") ∷ []) ≡ None
unfolding violation_of_request
row_11 = refl

-- own method: 9110 9.1
pub row_12 : violation_of_request true (field (codes ":method") (codes "BREW") ∷ field (codes ":scheme") (codes "https") ∷ field (codes ":authority") (codes "a") ∷ field (codes ":path") (codes "/") ∷ []) ≡ None
unfolding violation_of_request
row_12 = refl

-- method in small letters: 9110 9.1
pub row_13 : violation_of_request true (field (codes ":method") (codes "get") ∷ field (codes ":scheme") (codes "https") ∷ field (codes ":authority") (codes "a") ∷ field (codes ":path") (codes "/") ∷ []) ≡ None
unfolding violation_of_request
row_13 = refl

-- host for authority: 9114 4.3.1
pub row_14 : violation_of_request true (field (codes ":method") (codes "GET") ∷ field (codes ":scheme") (codes "https") ∷ field (codes ":path") (codes "/") ∷ field (codes "host") (codes "a") ∷ []) ≡ None
unfolding violation_of_request
row_14 = refl

-- host alike: 9114 4.3.1
pub row_15 : violation_of_request true (field (codes ":method") (codes "GET") ∷ field (codes ":scheme") (codes "https") ∷ field (codes ":authority") (codes "a") ∷ field (codes ":path") (codes "/") ∷ field (codes "host") (codes "a") ∷ []) ≡ None
unfolding violation_of_request
row_15 = refl

-- authority with port: 9114 4.3.1
pub row_16 : violation_of_request true (field (codes ":method") (codes "GET") ∷ field (codes ":scheme") (codes "https") ∷ field (codes ":authority") (codes "a:8443") ∷ field (codes ":path") (codes "/") ∷ []) ≡ None
unfolding violation_of_request
row_16 = refl

-- authority IPv6: 3986 3.2.2
pub row_17 : violation_of_request true (field (codes ":method") (codes "GET") ∷ field (codes ":scheme") (codes "https") ∷ field (codes ":authority") (codes "[::1]:443") ∷ field (codes ":path") (codes "/") ∷ []) ≡ None
unfolding violation_of_request
row_17 = refl

-- cookie twice: 9114 4.2.1
pub row_18 : violation_of_request true (field (codes ":method") (codes "GET") ∷ field (codes ":scheme") (codes "https") ∷ field (codes ":authority") (codes "a") ∷ field (codes ":path") (codes "/") ∷ field (codes "cookie") (codes "a=1") ∷ field (codes "cookie") (codes "b=2") ∷ []) ≡ None
unfolding violation_of_request
row_18 = refl

-- te: trailers: 9114 4.2
pub row_19 : violation_of_request true (field (codes ":method") (codes "GET") ∷ field (codes ":scheme") (codes "https") ∷ field (codes ":authority") (codes "a") ∷ field (codes ":path") (codes "/") ∷ field (codes "te") (codes "trailers") ∷ []) ≡ None
unfolding violation_of_request
row_19 = refl

-- te: Trailers: 9110 10.1.4
pub row_20 : violation_of_request true (field (codes ":method") (codes "GET") ∷ field (codes ":scheme") (codes "https") ∷ field (codes ":authority") (codes "a") ∷ field (codes ":path") (codes "/") ∷ field (codes "te") (codes "Trailers") ∷ []) ≡ None
unfolding violation_of_request
row_20 = refl

-- te: trailers twice: 9110 5.3
pub row_21 : violation_of_request true (field (codes ":method") (codes "GET") ∷ field (codes ":scheme") (codes "https") ∷ field (codes ":authority") (codes "a") ∷ field (codes ":path") (codes "/") ∷ field (codes "te") (codes "trailers") ∷ field (codes "te") (codes "trailers") ∷ []) ≡ None
unfolding violation_of_request
row_21 = refl

-- other scheme without authority: 9114 4.3.1
pub row_22 : violation_of_request true (field (codes ":method") (codes "GET") ∷ field (codes ":scheme") (codes "urn") ∷ field (codes ":path") (codes "/") ∷ []) ≡ None
unfolding violation_of_request
row_22 = refl

-- other scheme with authority: 9114 4.3.1
pub row_23 : violation_of_request true (field (codes ":method") (codes "GET") ∷ field (codes ":scheme") (codes "coap") ∷ field (codes ":authority") (codes "a") ∷ field (codes ":path") (codes "/") ∷ []) ≡ None
unfolding violation_of_request
row_23 = refl

-- userinfo in another scheme: 9114 4.3.1
pub row_24 : violation_of_request true (field (codes ":method") (codes "GET") ∷ field (codes ":scheme") (codes "ftp") ∷ field (codes ":authority") (codes "u@a") ∷ field (codes ":path") (codes "/") ∷ []) ≡ None
unfolding violation_of_request
row_24 = refl

-- expect: 9110 10.1.1
pub row_25 : violation_of_request true (field (codes ":method") (codes "POST") ∷ field (codes ":scheme") (codes "https") ∷ field (codes ":authority") (codes "a") ∷ field (codes ":path") (codes "/") ∷ field (codes "expect") (codes "100-continue") ∷ []) ≡ None
unfolding violation_of_request
row_25 = refl

-- trailer field names trailers: 9110 6.6.2
pub row_26 : violation_of_request true (field (codes ":method") (codes "POST") ∷ field (codes ":scheme") (codes "https") ∷ field (codes ":authority") (codes "a") ∷ field (codes ":path") (codes "/") ∷ field (codes "trailer") (codes "x") ∷ []) ≡ None
unfolding violation_of_request
row_26 = refl

-- priority: 9218 5
pub row_27 : violation_of_request true (field (codes ":method") (codes "GET") ∷ field (codes ":scheme") (codes "https") ∷ field (codes ":authority") (codes "a") ∷ field (codes ":path") (codes "/") ∷ field (codes "priority") (codes "u=1") ∷ []) ≡ None
unfolding violation_of_request
row_27 = refl

-- without :method: 9114 4.3.1
pub row_28 : violation_of_request true (field (codes ":scheme") (codes "https") ∷ field (codes ":authority") (codes "a") ∷ field (codes ":path") (codes "/") ∷ []) ≡ Some MissingPseudo
unfolding violation_of_request
row_28 = refl

-- without :scheme: 9114 4.3.1
pub row_29 : violation_of_request true (field (codes ":method") (codes "GET") ∷ field (codes ":authority") (codes "a") ∷ field (codes ":path") (codes "/") ∷ []) ≡ Some MissingPseudo
unfolding violation_of_request
row_29 = refl

-- without :path: 9114 4.3.1
pub row_30 : violation_of_request true (field (codes ":method") (codes "GET") ∷ field (codes ":scheme") (codes "https") ∷ field (codes ":authority") (codes "a") ∷ []) ≡ Some MissingPseudo
unfolding violation_of_request
row_30 = refl

-- without :authority and host: 9114 4.3.1
pub row_31 : violation_of_request true (field (codes ":method") (codes "GET") ∷ field (codes ":scheme") (codes "https") ∷ field (codes ":path") (codes "/") ∷ []) ≡ Some Authority
unfolding violation_of_request
row_31 = refl

-- http without authority: 9114 4.3.1
pub row_32 : violation_of_request true (field (codes ":method") (codes "GET") ∷ field (codes ":scheme") (codes "http") ∷ field (codes ":path") (codes "/") ∷ []) ≡ Some Authority
unfolding violation_of_request
row_32 = refl

-- HTTPS without authority: 9114 4.3.1
pub row_33 : violation_of_request true (field (codes ":method") (codes "GET") ∷ field (codes ":scheme") (codes "HTTPS") ∷ field (codes ":path") (codes "/") ∷ []) ≡ Some Authority
unfolding violation_of_request
row_33 = refl

-- :method alone: 9114 4.3.1
pub row_34 : violation_of_request true (field (codes ":method") (codes "GET") ∷ []) ≡ Some MissingPseudo
unfolding violation_of_request
row_34 = refl

-- no fields: 9114 4.3.1
pub row_35 : violation_of_request true ([]) ≡ Some MissingPseudo
unfolding violation_of_request
row_35 = refl

-- regular fields alone: 9114 4.3.1
pub row_36 : violation_of_request true (field (codes "host") (codes "a") ∷ field (codes "x") (codes "1") ∷ []) ≡ Some MissingPseudo
unfolding violation_of_request
row_36 = refl

-- twice :method: 9114 4.3
pub row_37 : violation_of_request true (field (codes ":method") (codes "GET") ∷ field (codes ":scheme") (codes "https") ∷ field (codes ":authority") (codes "a") ∷ field (codes ":path") (codes "/") ∷ field (codes ":method") (codes "GET") ∷ []) ≡ Some RepeatedPseudo
unfolding violation_of_request
row_37 = refl

-- twice :scheme: 9114 4.3
pub row_38 : violation_of_request true (field (codes ":method") (codes "GET") ∷ field (codes ":scheme") (codes "https") ∷ field (codes ":authority") (codes "a") ∷ field (codes ":path") (codes "/") ∷ field (codes ":scheme") (codes "https") ∷ []) ≡ Some RepeatedPseudo
unfolding violation_of_request
row_38 = refl

-- twice :authority: 9114 4.3
pub row_39 : violation_of_request true (field (codes ":method") (codes "GET") ∷ field (codes ":scheme") (codes "https") ∷ field (codes ":authority") (codes "a") ∷ field (codes ":path") (codes "/") ∷ field (codes ":authority") (codes "a") ∷ []) ≡ Some RepeatedPseudo
unfolding violation_of_request
row_39 = refl

-- twice :path: 9114 4.3
pub row_40 : violation_of_request true (field (codes ":method") (codes "GET") ∷ field (codes ":scheme") (codes "https") ∷ field (codes ":authority") (codes "a") ∷ field (codes ":path") (codes "/") ∷ field (codes ":path") (codes "/") ∷ []) ≡ Some RepeatedPseudo
unfolding violation_of_request
row_40 = refl

-- two :path unlike: 9114 4.3
pub row_41 : violation_of_request true (field (codes ":method") (codes "GET") ∷ field (codes ":scheme") (codes "https") ∷ field (codes ":authority") (codes "a") ∷ field (codes ":path") (codes "/") ∷ field (codes ":path") (codes "/2") ∷ []) ≡ Some RepeatedPseudo
unfolding violation_of_request
row_41 = refl

-- two :authority unlike: 9114 4.3
pub row_42 : violation_of_request true (field (codes ":method") (codes "GET") ∷ field (codes ":scheme") (codes "https") ∷ field (codes ":authority") (codes "a") ∷ field (codes ":path") (codes "/") ∷ field (codes ":authority") (codes "b") ∷ []) ≡ Some RepeatedPseudo
unfolding violation_of_request
row_42 = refl

-- two :method unlike: 9114 4.3
pub row_43 : violation_of_request true (field (codes ":method") (codes "GET") ∷ field (codes ":scheme") (codes "https") ∷ field (codes ":authority") (codes "a") ∷ field (codes ":path") (codes "/") ∷ field (codes ":method") (codes "PUT") ∷ []) ≡ Some RepeatedPseudo
unfolding violation_of_request
row_43 = refl

-- two :scheme unlike: 9114 4.3
pub row_44 : violation_of_request true (field (codes ":method") (codes "GET") ∷ field (codes ":scheme") (codes "https") ∷ field (codes ":authority") (codes "a") ∷ field (codes ":path") (codes "/") ∷ field (codes ":scheme") (codes "http") ∷ []) ≡ Some RepeatedPseudo
unfolding violation_of_request
row_44 = refl

-- two :protocol: 9114 4.3
pub row_45 : violation_of_request true (field (codes ":method") (codes "CONNECT") ∷ field (codes ":protocol") (codes "webtransport") ∷ field (codes ":scheme") (codes "https") ∷ field (codes ":authority") (codes "a") ∷ field (codes ":path") (codes "/") ∷ field (codes ":protocol") (codes "webtransport") ∷ []) ≡ Some RepeatedPseudo
unfolding violation_of_request
row_45 = refl

-- regular field in between: 9114 4.3
pub row_46 : violation_of_request true (field (codes ":method") (codes "GET") ∷ field (codes "x") (codes "1") ∷ field (codes ":scheme") (codes "https") ∷ field (codes ":authority") (codes "a") ∷ field (codes ":path") (codes "/") ∷ []) ≡ Some PseudoOrder
unfolding violation_of_request
row_46 = refl

-- regular field first: 9114 4.3
pub row_47 : violation_of_request true (field (codes "x") (codes "1") ∷ field (codes ":method") (codes "GET") ∷ field (codes ":scheme") (codes "https") ∷ field (codes ":authority") (codes "a") ∷ field (codes ":path") (codes "/") ∷ []) ≡ Some PseudoOrder
unfolding violation_of_request
row_47 = refl

-- :path last behind a regular one: 9114 4.3
pub row_48 : violation_of_request true (field (codes ":method") (codes "GET") ∷ field (codes ":scheme") (codes "https") ∷ field (codes ":authority") (codes "a") ∷ field (codes "x") (codes "1") ∷ field (codes ":path") (codes "/") ∷ []) ≡ Some PseudoOrder
unfolding violation_of_request
row_48 = refl

-- repeat behind a regular field: 9114 4.3
pub row_49 : violation_of_request true (field (codes ":method") (codes "GET") ∷ field (codes ":scheme") (codes "https") ∷ field (codes ":authority") (codes "a") ∷ field (codes ":path") (codes "/") ∷ field (codes "x") (codes "1") ∷ field (codes ":path") (codes "/2") ∷ []) ≡ Some PseudoOrder
unfolding violation_of_request
row_49 = refl

-- :status in a request: 9114 4.3
pub row_50 : violation_of_request true (field (codes ":method") (codes "GET") ∷ field (codes ":scheme") (codes "https") ∷ field (codes ":authority") (codes "a") ∷ field (codes ":path") (codes "/") ∷ field (codes ":status") (codes "200") ∷ []) ≡ Some WrongPseudo
unfolding violation_of_request
row_50 = refl

-- :status alone at a server: 9114 4.3
pub row_51 : violation_of_request true (field (codes ":status") (codes "200") ∷ []) ≡ Some WrongPseudo
unfolding violation_of_request
row_51 = refl

-- value ' a': 9114 10.3
pub row_52 : violation_of_request true (field (codes ":method") (codes "GET") ∷ field (codes ":scheme") (codes "https") ∷ field (codes ":authority") (codes "a") ∷ field (codes ":path") (codes "/") ∷ field (codes "x") (codes " a") ∷ []) ≡ Some Value
unfolding violation_of_request
row_52 = refl

-- value 'a ': 9114 10.3
pub row_53 : violation_of_request true (field (codes ":method") (codes "GET") ∷ field (codes ":scheme") (codes "https") ∷ field (codes ":authority") (codes "a") ∷ field (codes ":path") (codes "/") ∷ field (codes "x") (codes "a ") ∷ []) ≡ Some Value
unfolding violation_of_request
row_53 = refl

-- empty value: 9110 5.5
pub row_54 : violation_of_request true (field (codes ":method") (codes "GET") ∷ field (codes ":scheme") (codes "https") ∷ field (codes ":authority") (codes "a") ∷ field (codes ":path") (codes "/") ∷ field (codes "x") (codes "") ∷ []) ≡ None
unfolding violation_of_request
row_54 = refl

-- connection: close: 9114 4.2
pub row_55 : violation_of_request true (field (codes ":method") (codes "GET") ∷ field (codes ":scheme") (codes "https") ∷ field (codes ":authority") (codes "a") ∷ field (codes ":path") (codes "/") ∷ field (codes "connection") (codes "close") ∷ []) ≡ Some ConnectionField
unfolding violation_of_request
row_55 = refl

-- connection: x: 9114 4.2
pub row_56 : violation_of_request true (field (codes ":method") (codes "GET") ∷ field (codes ":scheme") (codes "https") ∷ field (codes ":authority") (codes "a") ∷ field (codes ":path") (codes "/") ∷ field (codes "connection") (codes "x") ∷ []) ≡ Some ConnectionField
unfolding violation_of_request
row_56 = refl

-- keep-alive: timeout=5: 9114 4.2
pub row_57 : violation_of_request true (field (codes ":method") (codes "GET") ∷ field (codes ":scheme") (codes "https") ∷ field (codes ":authority") (codes "a") ∷ field (codes ":path") (codes "/") ∷ field (codes "keep-alive") (codes "timeout=5") ∷ []) ≡ Some ConnectionField
unfolding violation_of_request
row_57 = refl

-- proxy-connection: keep-alive: 9114 4.2
pub row_58 : violation_of_request true (field (codes ":method") (codes "GET") ∷ field (codes ":scheme") (codes "https") ∷ field (codes ":authority") (codes "a") ∷ field (codes ":path") (codes "/") ∷ field (codes "proxy-connection") (codes "keep-alive") ∷ []) ≡ Some ConnectionField
unfolding violation_of_request
row_58 = refl

-- transfer-encoding: chunked: 9114 4.2
pub row_59 : violation_of_request true (field (codes ":method") (codes "GET") ∷ field (codes ":scheme") (codes "https") ∷ field (codes ":authority") (codes "a") ∷ field (codes ":path") (codes "/") ∷ field (codes "transfer-encoding") (codes "chunked") ∷ []) ≡ Some ConnectionField
unfolding violation_of_request
row_59 = refl

-- upgrade: h2c: 9114 4.2
pub row_60 : violation_of_request true (field (codes ":method") (codes "GET") ∷ field (codes ":scheme") (codes "https") ∷ field (codes ":authority") (codes "a") ∷ field (codes ":path") (codes "/") ∷ field (codes "upgrade") (codes "h2c") ∷ []) ≡ Some ConnectionField
unfolding violation_of_request
row_60 = refl

-- te: gzip: 9114 4.2
pub row_61 : violation_of_request true (field (codes ":method") (codes "GET") ∷ field (codes ":scheme") (codes "https") ∷ field (codes ":authority") (codes "a") ∷ field (codes ":path") (codes "/") ∷ field (codes "te") (codes "gzip") ∷ []) ≡ Some ConnectionField
unfolding violation_of_request
row_61 = refl

-- te: trailers, gzip: 9114 4.2
pub row_62 : violation_of_request true (field (codes ":method") (codes "GET") ∷ field (codes ":scheme") (codes "https") ∷ field (codes ":authority") (codes "a") ∷ field (codes ":path") (codes "/") ∷ field (codes "te") (codes "trailers, gzip") ∷ []) ≡ Some ConnectionField
unfolding violation_of_request
row_62 = refl

-- te: : 9114 4.2
pub row_63 : violation_of_request true (field (codes ":method") (codes "GET") ∷ field (codes ":scheme") (codes "https") ∷ field (codes ":authority") (codes "a") ∷ field (codes ":path") (codes "/") ∷ field (codes "te") (codes "") ∷ []) ≡ Some ConnectionField
unfolding violation_of_request
row_63 = refl

-- te: trailers;q=0.5: 9114 4.2
pub row_64 : violation_of_request true (field (codes ":method") (codes "GET") ∷ field (codes ":scheme") (codes "https") ∷ field (codes ":authority") (codes "a") ∷ field (codes ":path") (codes "/") ∷ field (codes "te") (codes "trailers;q=0.5") ∷ []) ≡ Some ConnectionField
unfolding violation_of_request
row_64 = refl

-- te: trailers and te: gzip: 9114 4.2
pub row_65 : violation_of_request true (field (codes ":method") (codes "GET") ∷ field (codes ":scheme") (codes "https") ∷ field (codes ":authority") (codes "a") ∷ field (codes ":path") (codes "/") ∷ field (codes "te") (codes "trailers") ∷ field (codes "te") (codes "gzip") ∷ []) ≡ Some ConnectionField
unfolding violation_of_request
row_65 = refl

-- transfer-encoding and content-length: 9114 4.2
pub row_66 : violation_of_request true (field (codes ":method") (codes "POST") ∷ field (codes ":scheme") (codes "https") ∷ field (codes ":authority") (codes "a") ∷ field (codes ":path") (codes "/") ∷ field (codes "transfer-encoding") (codes "chunked") ∷ field (codes "content-length") (codes "2") ∷ []) ≡ Some ConnectionField
unfolding violation_of_request
row_66 = refl

-- http2-settings: 9113 3.2.1
pub row_67 : violation_of_request true (field (codes ":method") (codes "GET") ∷ field (codes ":scheme") (codes "https") ∷ field (codes ":authority") (codes "a") ∷ field (codes ":path") (codes "/") ∷ field (codes "http2-settings") (codes "AAMAAABk") ∷ []) ≡ None
unfolding violation_of_request
row_67 = refl

-- :scheme '': 3986 3.1
pub row_68 : violation_of_request true (field (codes ":method") (codes "GET") ∷ field (codes ":scheme") (codes "") ∷ field (codes ":authority") (codes "a") ∷ field (codes ":path") (codes "/") ∷ []) ≡ Some Scheme
unfolding violation_of_request
row_68 = refl

-- :scheme '1x': 3986 3.1
pub row_69 : violation_of_request true (field (codes ":method") (codes "GET") ∷ field (codes ":scheme") (codes "1x") ∷ field (codes ":authority") (codes "a") ∷ field (codes ":path") (codes "/") ∷ []) ≡ Some Scheme
unfolding violation_of_request
row_69 = refl

-- :scheme '+x': 3986 3.1
pub row_70 : violation_of_request true (field (codes ":method") (codes "GET") ∷ field (codes ":scheme") (codes "+x") ∷ field (codes ":authority") (codes "a") ∷ field (codes ":path") (codes "/") ∷ []) ≡ Some Scheme
unfolding violation_of_request
row_70 = refl

-- :authority 'u@a': 9114 4.3.1
pub row_71 : violation_of_request true (field (codes ":method") (codes "GET") ∷ field (codes ":scheme") (codes "https") ∷ field (codes ":authority") (codes "u@a") ∷ field (codes ":path") (codes "/") ∷ []) ≡ Some Authority
unfolding violation_of_request
row_71 = refl

-- :authority 'u:p@a': 9114 4.3.1
pub row_72 : violation_of_request true (field (codes ":method") (codes "GET") ∷ field (codes ":scheme") (codes "https") ∷ field (codes ":authority") (codes "u:p@a") ∷ field (codes ":path") (codes "/") ∷ []) ≡ Some Authority
unfolding violation_of_request
row_72 = refl

-- host unlike: 9114 4.3.1
pub row_73 : violation_of_request true (field (codes ":method") (codes "GET") ∷ field (codes ":scheme") (codes "https") ∷ field (codes ":authority") (codes "a") ∷ field (codes ":path") (codes "/") ∷ field (codes "host") (codes "b") ∷ []) ≡ Some Authority
unfolding violation_of_request
row_73 = refl

-- host unlike in case: 9114 4.3.1
pub row_74 : violation_of_request true (field (codes ":method") (codes "GET") ∷ field (codes ":scheme") (codes "https") ∷ field (codes ":authority") (codes "a") ∷ field (codes ":path") (codes "/") ∷ field (codes "host") (codes "A") ∷ []) ≡ Some Authority
unfolding violation_of_request
row_74 = refl

-- host with the port, authority without: 9114 4.3.1
pub row_75 : violation_of_request true (field (codes ":method") (codes "GET") ∷ field (codes ":scheme") (codes "https") ∷ field (codes ":authority") (codes "a") ∷ field (codes ":path") (codes "/") ∷ field (codes "host") (codes "a:443") ∷ []) ≡ Some Authority
unfolding violation_of_request
row_75 = refl

-- two host: 9110 7.2
pub row_76 : violation_of_request true (field (codes ":method") (codes "GET") ∷ field (codes ":scheme") (codes "https") ∷ field (codes ":path") (codes "/") ∷ field (codes "host") (codes "a") ∷ field (codes "host") (codes "b") ∷ []) ≡ Some Authority
unfolding violation_of_request
row_76 = refl

-- two host alike: 9110 7.2
pub row_77 : violation_of_request true (field (codes ":method") (codes "GET") ∷ field (codes ":scheme") (codes "https") ∷ field (codes ":path") (codes "/") ∷ field (codes "host") (codes "a") ∷ field (codes "host") (codes "a") ∷ []) ≡ Some Authority
unfolding violation_of_request
row_77 = refl

-- two host beside authority: 9110 7.2
pub row_78 : violation_of_request true (field (codes ":method") (codes "GET") ∷ field (codes ":scheme") (codes "https") ∷ field (codes ":authority") (codes "a") ∷ field (codes ":path") (codes "/") ∷ field (codes "host") (codes "a") ∷ field (codes "host") (codes "a") ∷ []) ≡ Some Authority
unfolding violation_of_request
row_78 = refl

-- host empty: 9114 4.3.1
pub row_79 : violation_of_request true (field (codes ":method") (codes "GET") ∷ field (codes ":scheme") (codes "https") ∷ field (codes ":path") (codes "/") ∷ field (codes "host") (codes "") ∷ []) ≡ Some Authority
unfolding violation_of_request
row_79 = refl

-- host empty beside authority: 9114 4.3.1
pub row_80 : violation_of_request true (field (codes ":method") (codes "GET") ∷ field (codes ":scheme") (codes "https") ∷ field (codes ":authority") (codes "a") ∷ field (codes ":path") (codes "/") ∷ field (codes "host") (codes "") ∷ []) ≡ Some Authority
unfolding violation_of_request
row_80 = refl

-- host with userinfo: 9110 7.2
pub row_81 : violation_of_request true (field (codes ":method") (codes "GET") ∷ field (codes ":scheme") (codes "https") ∷ field (codes ":path") (codes "/") ∷ field (codes "host") (codes "u@a") ∷ []) ≡ Some Authority
unfolding violation_of_request
row_81 = refl

-- host with a space: 9110 7.2
pub row_82 : violation_of_request true (field (codes ":method") (codes "GET") ∷ field (codes ":scheme") (codes "https") ∷ field (codes ":path") (codes "/") ∷ field (codes "host") (codes "a b") ∷ []) ≡ Some Authority
unfolding violation_of_request
row_82 = refl

-- host of two names: 9110 7.2
pub row_83 : violation_of_request true (field (codes ":method") (codes "GET") ∷ field (codes ":scheme") (codes "https") ∷ field (codes ":path") (codes "/") ∷ field (codes "host") (codes "a, b") ∷ []) ≡ Some Authority
unfolding violation_of_request
row_83 = refl

-- host with a path: 9110 7.2
pub row_84 : violation_of_request true (field (codes ":method") (codes "GET") ∷ field (codes ":scheme") (codes "https") ∷ field (codes ":path") (codes "/") ∷ field (codes "host") (codes "a/b") ∷ []) ≡ Some Authority
unfolding violation_of_request
row_84 = refl

-- :path '?x=1': 9114 4.3.1
pub row_85 : violation_of_request true (field (codes ":method") (codes "GET") ∷ field (codes ":scheme") (codes "https") ∷ field (codes ":authority") (codes "a") ∷ field (codes ":path") (codes "?x=1") ∷ []) ≡ Some Path
unfolding violation_of_request
row_85 = refl

-- :path '*': 9114 4.3.1
pub row_86 : violation_of_request true (field (codes ":method") (codes "GET") ∷ field (codes ":scheme") (codes "https") ∷ field (codes ":authority") (codes "a") ∷ field (codes ":path") (codes "*") ∷ []) ≡ Some Path
unfolding violation_of_request
row_86 = refl

-- :path '#f': 9114 4.3.1
pub row_87 : violation_of_request true (field (codes ":method") (codes "GET") ∷ field (codes ":scheme") (codes "https") ∷ field (codes ":authority") (codes "a") ∷ field (codes ":path") (codes "#f") ∷ []) ≡ Some Path
unfolding violation_of_request
row_87 = refl

-- :path '/#f': 9114 4.3.1
pub row_88 : violation_of_request true (field (codes ":method") (codes "GET") ∷ field (codes ":scheme") (codes "https") ∷ field (codes ":authority") (codes "a") ∷ field (codes ":path") (codes "/#f") ∷ []) ≡ Some Path
unfolding violation_of_request
row_88 = refl

-- :path '/a?b#f': 9114 4.3.1
pub row_89 : violation_of_request true (field (codes ":method") (codes "GET") ∷ field (codes ":scheme") (codes "https") ∷ field (codes ":authority") (codes "a") ∷ field (codes ":path") (codes "/a?b#f") ∷ []) ≡ Some Path
unfolding violation_of_request
row_89 = refl

-- OPTIONS ?x: 9114 4.3.1
pub row_90 : violation_of_request true (field (codes ":method") (codes "OPTIONS") ∷ field (codes ":scheme") (codes "https") ∷ field (codes ":authority") (codes "a") ∷ field (codes ":path") (codes "?x") ∷ []) ≡ Some Path
unfolding violation_of_request
row_90 = refl

-- HEAD *: 9114 4.3.1
pub row_91 : violation_of_request true (field (codes ":method") (codes "HEAD") ∷ field (codes ":scheme") (codes "https") ∷ field (codes ":authority") (codes "a") ∷ field (codes ":path") (codes "*") ∷ []) ≡ Some Path
unfolding violation_of_request
row_91 = refl

-- plain CONNECT: 9114 4.4
pub row_92 : violation_of_request true (field (codes ":method") (codes "CONNECT") ∷ field (codes ":authority") (codes "a:443") ∷ []) ≡ None
unfolding violation_of_request
row_92 = refl

-- CONNECT without port: 9110 9.3.6
pub row_93 : violation_of_request true (field (codes ":method") (codes "CONNECT") ∷ field (codes ":authority") (codes "a") ∷ []) ≡ Some Connect
unfolding violation_of_request
row_93 = refl

-- CONNECT without authority: 9114 4.4
pub row_94 : violation_of_request true (field (codes ":method") (codes "CONNECT") ∷ []) ≡ Some Connect
unfolding violation_of_request
row_94 = refl

-- CONNECT with host alone: 9114 4.4
pub row_95 : violation_of_request true (field (codes ":method") (codes "CONNECT") ∷ field (codes "host") (codes "a:443") ∷ []) ≡ Some Connect
unfolding violation_of_request
row_95 = refl

-- CONNECT with scheme and path: 9114 4.4
pub row_96 : violation_of_request true (field (codes ":method") (codes "CONNECT") ∷ field (codes ":scheme") (codes "https") ∷ field (codes ":authority") (codes "a") ∷ field (codes ":path") (codes "/") ∷ []) ≡ Some Connect
unfolding violation_of_request
row_96 = refl

-- CONNECT with scheme: 9114 4.4
pub row_97 : violation_of_request true (field (codes ":method") (codes "CONNECT") ∷ field (codes ":authority") (codes "a:443") ∷ field (codes ":scheme") (codes "https") ∷ []) ≡ Some Connect
unfolding violation_of_request
row_97 = refl

-- CONNECT with path: 9114 4.4
pub row_98 : violation_of_request true (field (codes ":method") (codes "CONNECT") ∷ field (codes ":authority") (codes "a:443") ∷ field (codes ":path") (codes "/") ∷ []) ≡ Some Connect
unfolding violation_of_request
row_98 = refl

-- CONNECT with userinfo: 9114 4.4
pub row_99 : violation_of_request true (field (codes ":method") (codes "CONNECT") ∷ field (codes ":authority") (codes "u@a:443") ∷ []) ≡ Some Authority
unfolding violation_of_request
row_99 = refl

-- CONNECT, host unlike: 9114 4.3.1
pub row_100 : violation_of_request true (field (codes ":method") (codes "CONNECT") ∷ field (codes ":authority") (codes "a:443") ∷ field (codes "host") (codes "b:443") ∷ []) ≡ Some Authority
unfolding violation_of_request
row_100 = refl

-- CONNECT, host alike: 9114 4.3.1
pub row_101 : violation_of_request true (field (codes ":method") (codes "CONNECT") ∷ field (codes ":authority") (codes "a:443") ∷ field (codes "host") (codes "a:443") ∷ []) ≡ None
unfolding violation_of_request
row_101 = refl

-- CONNECT in small letters: 9110 9.1
pub row_102 : violation_of_request true (field (codes ":method") (codes "connect") ∷ field (codes ":authority") (codes "a:443") ∷ []) ≡ Some MissingPseudo
unfolding violation_of_request
row_102 = refl

-- CONNECT with content-length, other bytes: 9110 9.3.6
pub row_104 : violation_of_request true (field (codes ":method") (codes "CONNECT") ∷ field (codes ":authority") (codes "a:443") ∷ field (codes "content-length") (codes "1") ∷ []) ≡ None
unfolding violation_of_request
row_104 = refl

-- CONNECT webtransport: 9220 3
pub row_105 : violation_of_request true (field (codes ":method") (codes "CONNECT") ∷ field (codes ":protocol") (codes "webtransport") ∷ field (codes ":scheme") (codes "https") ∷ field (codes ":authority") (codes "a") ∷ field (codes ":path") (codes "/") ∷ []) ≡ None
unfolding violation_of_request
row_105 = refl

-- CONNECT connect-udp: 9298 3.4
pub row_106 : violation_of_request true (field (codes ":method") (codes "CONNECT") ∷ field (codes ":protocol") (codes "connect-udp") ∷ field (codes ":scheme") (codes "https") ∷ field (codes ":authority") (codes "a") ∷ field (codes ":path") (codes "/") ∷ []) ≡ None
unfolding violation_of_request
row_106 = refl

-- not announced: 9220 3
pub row_107 : violation_of_request false (field (codes ":method") (codes "CONNECT") ∷ field (codes ":protocol") (codes "webtransport") ∷ field (codes ":scheme") (codes "https") ∷ field (codes ":authority") (codes "a") ∷ field (codes ":path") (codes "/") ∷ []) ≡ Some Protocol
unfolding violation_of_request
row_107 = refl

-- :protocol on GET: 8441 4
pub row_108 : violation_of_request true (field (codes ":method") (codes "GET") ∷ field (codes ":scheme") (codes "https") ∷ field (codes ":authority") (codes "a") ∷ field (codes ":path") (codes "/") ∷ field (codes ":protocol") (codes "webtransport") ∷ []) ≡ Some Protocol
unfolding violation_of_request
row_108 = refl

-- :protocol on POST: 8441 4
pub row_109 : violation_of_request true (field (codes ":method") (codes "POST") ∷ field (codes ":scheme") (codes "https") ∷ field (codes ":authority") (codes "a") ∷ field (codes ":path") (codes "/") ∷ field (codes ":protocol") (codes "webtransport") ∷ []) ≡ Some Protocol
unfolding violation_of_request
row_109 = refl

-- :protocol without :scheme: 8441 4
pub row_110 : violation_of_request true (field (codes ":method") (codes "CONNECT") ∷ field (codes ":protocol") (codes "webtransport") ∷ field (codes ":authority") (codes "a") ∷ field (codes ":path") (codes "/") ∷ []) ≡ Some MissingPseudo
unfolding violation_of_request
row_110 = refl

-- :protocol without :path: 8441 4
pub row_111 : violation_of_request true (field (codes ":method") (codes "CONNECT") ∷ field (codes ":protocol") (codes "webtransport") ∷ field (codes ":scheme") (codes "https") ∷ field (codes ":authority") (codes "a") ∷ []) ≡ Some MissingPseudo
unfolding violation_of_request
row_111 = refl

-- :protocol without authority: 8441 4
pub row_112 : violation_of_request true (field (codes ":method") (codes "CONNECT") ∷ field (codes ":protocol") (codes "webtransport") ∷ field (codes ":scheme") (codes "https") ∷ field (codes ":path") (codes "/") ∷ []) ≡ Some Authority
unfolding violation_of_request
row_112 = refl

-- :protocol with host alone: 8441 4
pub row_113 : violation_of_request true (field (codes ":method") (codes "CONNECT") ∷ field (codes ":protocol") (codes "webtransport") ∷ field (codes ":scheme") (codes "https") ∷ field (codes ":path") (codes "/") ∷ field (codes "host") (codes "a") ∷ []) ≡ None
unfolding violation_of_request
row_113 = refl

-- :protocol with path *: 9114 4.3.1
pub row_114 : violation_of_request true (field (codes ":method") (codes "CONNECT") ∷ field (codes ":protocol") (codes "webtransport") ∷ field (codes ":scheme") (codes "https") ∷ field (codes ":authority") (codes "a") ∷ field (codes ":path") (codes "*") ∷ []) ≡ Some Path
unfolding violation_of_request
row_114 = refl

-- length kept: 9114 4.1.2
pub row_115 : violation_of_request true (field (codes ":method") (codes "POST") ∷ field (codes ":scheme") (codes "https") ∷ field (codes ":authority") (codes "a") ∷ field (codes ":path") (codes "/") ∷ field (codes "content-length") (codes "2") ∷ []) ≡ None
unfolding violation_of_request
row_115 = refl

-- length kept in two: 9114 4.1.2
pub row_116 : violation_of_request true (field (codes ":method") (codes "POST") ∷ field (codes ":scheme") (codes "https") ∷ field (codes ":authority") (codes "a") ∷ field (codes ":path") (codes "/") ∷ field (codes "content-length") (codes "5") ∷ []) ≡ None
unfolding violation_of_request
row_116 = refl

-- length 0: 9110 8.6
pub row_117 : violation_of_request true (field (codes ":method") (codes "POST") ∷ field (codes ":scheme") (codes "https") ∷ field (codes ":authority") (codes "a") ∷ field (codes ":path") (codes "/") ∷ field (codes "content-length") (codes "0") ∷ []) ≡ None
unfolding violation_of_request
row_117 = refl

-- length 002: 9110 8.6
pub row_118 : violation_of_request true (field (codes ":method") (codes "POST") ∷ field (codes ":scheme") (codes "https") ∷ field (codes ":authority") (codes "a") ∷ field (codes ":path") (codes "/") ∷ field (codes "content-length") (codes "002") ∷ []) ≡ None
unfolding violation_of_request
row_118 = refl

-- none said: 9110 8.6
pub row_119 : violation_of_request true (field (codes ":method") (codes "POST") ∷ field (codes ":scheme") (codes "https") ∷ field (codes ":authority") (codes "a") ∷ field (codes ":path") (codes "/") ∷ []) ≡ None
unfolding violation_of_request
row_119 = refl

-- length on GET: 9110 9.3.1
pub row_120 : violation_of_request true (field (codes ":method") (codes "GET") ∷ field (codes ":scheme") (codes "https") ∷ field (codes ":authority") (codes "a") ∷ field (codes ":path") (codes "/") ∷ field (codes "content-length") (codes "2") ∷ []) ≡ None
unfolding violation_of_request
row_120 = refl

-- too much: 9114 4.1.2
pub row_121 : violation_of_request true (field (codes ":method") (codes "POST") ∷ field (codes ":scheme") (codes "https") ∷ field (codes ":authority") (codes "a") ∷ field (codes ":path") (codes "/") ∷ field (codes "content-length") (codes "1") ∷ []) ≡ None
unfolding violation_of_request
row_121 = refl

-- too much in the second: 9114 4.1.2
pub row_122 : violation_of_request true (field (codes ":method") (codes "POST") ∷ field (codes ":scheme") (codes "https") ∷ field (codes ":authority") (codes "a") ∷ field (codes ":path") (codes "/") ∷ field (codes "content-length") (codes "3") ∷ []) ≡ None
unfolding violation_of_request
row_122 = refl

-- content-length 'x': 9110 8.6
pub row_123 : violation_of_request true (field (codes ":method") (codes "POST") ∷ field (codes ":scheme") (codes "https") ∷ field (codes ":authority") (codes "a") ∷ field (codes ":path") (codes "/") ∷ field (codes "content-length") (codes "x") ∷ []) ≡ Some ContentLength
unfolding violation_of_request
row_123 = refl

-- content-length '': 9110 8.6
pub row_124 : violation_of_request true (field (codes ":method") (codes "POST") ∷ field (codes ":scheme") (codes "https") ∷ field (codes ":authority") (codes "a") ∷ field (codes ":path") (codes "/") ∷ field (codes "content-length") (codes "") ∷ []) ≡ Some ContentLength
unfolding violation_of_request
row_124 = refl

-- content-length '-1': 9110 8.6
pub row_125 : violation_of_request true (field (codes ":method") (codes "POST") ∷ field (codes ":scheme") (codes "https") ∷ field (codes ":authority") (codes "a") ∷ field (codes ":path") (codes "/") ∷ field (codes "content-length") (codes "-1") ∷ []) ≡ Some ContentLength
unfolding violation_of_request
row_125 = refl

-- content-length '+1': 9110 8.6
pub row_126 : violation_of_request true (field (codes ":method") (codes "POST") ∷ field (codes ":scheme") (codes "https") ∷ field (codes ":authority") (codes "a") ∷ field (codes ":path") (codes "/") ∷ field (codes "content-length") (codes "+1") ∷ []) ≡ Some ContentLength
unfolding violation_of_request
row_126 = refl

-- content-length '1.0': 9110 8.6
pub row_127 : violation_of_request true (field (codes ":method") (codes "POST") ∷ field (codes ":scheme") (codes "https") ∷ field (codes ":authority") (codes "a") ∷ field (codes ":path") (codes "/") ∷ field (codes "content-length") (codes "1.0") ∷ []) ≡ Some ContentLength
unfolding violation_of_request
row_127 = refl

-- content-length '0x1': 9110 8.6
pub row_128 : violation_of_request true (field (codes ":method") (codes "POST") ∷ field (codes ":scheme") (codes "https") ∷ field (codes ":authority") (codes "a") ∷ field (codes ":path") (codes "/") ∷ field (codes "content-length") (codes "0x1") ∷ []) ≡ Some ContentLength
unfolding violation_of_request
row_128 = refl

-- content-length '5,5': 9110 8.6
pub row_129 : violation_of_request true (field (codes ":method") (codes "POST") ∷ field (codes ":scheme") (codes "https") ∷ field (codes ":authority") (codes "a") ∷ field (codes ":path") (codes "/") ∷ field (codes "content-length") (codes "5,5") ∷ []) ≡ Some ContentLength
unfolding violation_of_request
row_129 = refl

-- content-length '5, 5': 9110 8.6
pub row_130 : violation_of_request true (field (codes ":method") (codes "POST") ∷ field (codes ":scheme") (codes "https") ∷ field (codes ":authority") (codes "a") ∷ field (codes ":path") (codes "/") ∷ field (codes "content-length") (codes "5, 5") ∷ []) ≡ Some ContentLength
unfolding violation_of_request
row_130 = refl

-- content-length ' 5': 9110 8.6
pub row_131 : violation_of_request true (field (codes ":method") (codes "POST") ∷ field (codes ":scheme") (codes "https") ∷ field (codes ":authority") (codes "a") ∷ field (codes ":path") (codes "/") ∷ field (codes "content-length") (codes " 5") ∷ []) ≡ Some ContentLength
unfolding violation_of_request
row_131 = refl

-- content-length '5 ': 9110 8.6
pub row_132 : violation_of_request true (field (codes ":method") (codes "POST") ∷ field (codes ":scheme") (codes "https") ∷ field (codes ":authority") (codes "a") ∷ field (codes ":path") (codes "/") ∷ field (codes "content-length") (codes "5 ") ∷ []) ≡ Some ContentLength
unfolding violation_of_request
row_132 = refl

-- content-length '18446744073709551616': 9110 8.6
pub row_133 : violation_of_request true (field (codes ":method") (codes "POST") ∷ field (codes ":scheme") (codes "https") ∷ field (codes ":authority") (codes "a") ∷ field (codes ":path") (codes "/") ∷ field (codes "content-length") (codes "18446744073709551616") ∷ []) ≡ Some ContentLength
unfolding violation_of_request
row_133 = refl

-- content-length '9223372036854775808': 9110 8.6
pub row_134 : violation_of_request true (field (codes ":method") (codes "POST") ∷ field (codes ":scheme") (codes "https") ∷ field (codes ":authority") (codes "a") ∷ field (codes ":path") (codes "/") ∷ field (codes "content-length") (codes "9223372036854775808") ∷ []) ≡ Some ContentLength
unfolding violation_of_request
row_134 = refl

-- content-length '4611686018427387904': 9110 8.6
pub row_135 : violation_of_request true (field (codes ":method") (codes "POST") ∷ field (codes ":scheme") (codes "https") ∷ field (codes ":authority") (codes "a") ∷ field (codes ":path") (codes "/") ∷ field (codes "content-length") (codes "4611686018427387904") ∷ []) ≡ Some ContentLength
unfolding violation_of_request
row_135 = refl

-- two lengths: 9110 8.6
pub row_136 : violation_of_request true (field (codes ":method") (codes "POST") ∷ field (codes ":scheme") (codes "https") ∷ field (codes ":authority") (codes "a") ∷ field (codes ":path") (codes "/") ∷ field (codes "content-length") (codes "1") ∷ field (codes "content-length") (codes "2") ∷ []) ≡ Some ContentLength
unfolding violation_of_request
row_136 = refl

-- two lengths alike: 9110 8.6
pub row_137 : violation_of_request true (field (codes ":method") (codes "POST") ∷ field (codes ":scheme") (codes "https") ∷ field (codes ":authority") (codes "a") ∷ field (codes ":path") (codes "/") ∷ field (codes "content-length") (codes "2") ∷ field (codes "content-length") (codes "2") ∷ []) ≡ Some ContentLength
unfolding violation_of_request
row_137 = refl

-- host in the middle of pseudo: 9114 4.3
pub row_197 : violation_of_request true (field (codes ":method") (codes "GET") ∷ field (codes "host") (codes "a") ∷ field (codes ":scheme") (codes "https") ∷ field (codes ":authority") (codes "a") ∷ field (codes ":path") (codes "/") ∷ []) ≡ Some PseudoOrder
unfolding violation_of_request
row_197 = refl

-- userinfo with HTTPS: 9114 4.3.1
pub row_198 : violation_of_request true (field (codes ":method") (codes "GET") ∷ field (codes ":scheme") (codes "HTTPS") ∷ field (codes ":authority") (codes "u@a") ∷ field (codes ":path") (codes "/") ∷ []) ≡ Some Authority
unfolding violation_of_request
row_198 = refl

-- host with userinfo, other scheme: 9110 7.2
pub row_199 : violation_of_request true (field (codes ":method") (codes "GET") ∷ field (codes ":scheme") (codes "coap") ∷ field (codes ":path") (codes "/") ∷ field (codes "host") (codes "u@a") ∷ []) ≡ Some Authority
unfolding violation_of_request
row_199 = refl

-- host empty, other scheme: 9114 4.3.1
pub row_200 : violation_of_request true (field (codes ":method") (codes "GET") ∷ field (codes ":scheme") (codes "urn") ∷ field (codes ":path") (codes "/") ∷ field (codes "host") (codes "") ∷ []) ≡ Some Authority
unfolding violation_of_request
row_200 = refl

-- :authority of a port alone: 9110 4.2.1
pub row_201 : violation_of_request true (field (codes ":method") (codes "GET") ∷ field (codes ":scheme") (codes "https") ∷ field (codes ":authority") (codes ":80") ∷ field (codes ":path") (codes "/") ∷ []) ≡ Some Authority
unfolding violation_of_request
row_201 = refl

-- host of a port alone: 9110 4.2.1
pub row_202 : violation_of_request true (field (codes ":method") (codes "GET") ∷ field (codes ":scheme") (codes "https") ∷ field (codes ":path") (codes "/") ∷ field (codes "host") (codes ":80") ∷ []) ≡ Some Authority
unfolding violation_of_request
row_202 = refl

-- CONNECT to a port alone: 9114 4.4
pub row_203 : violation_of_request true (field (codes ":method") (codes "CONNECT") ∷ field (codes ":authority") (codes ":443") ∷ []) ≡ Some Authority
unfolding violation_of_request
row_203 = refl

-- port alone in another scheme: 3986 3.2.2
pub row_204 : violation_of_request true (field (codes ":method") (codes "GET") ∷ field (codes ":scheme") (codes "coap") ∷ field (codes ":authority") (codes ":80") ∷ field (codes ":path") (codes "/") ∷ []) ≡ None
unfolding violation_of_request
row_204 = refl

-- port of letters: 9114 4.3.1
pub row_205 : violation_of_request true (field (codes ":method") (codes "GET") ∷ field (codes ":scheme") (codes "https") ∷ field (codes ":authority") (codes "a:b") ∷ field (codes ":path") (codes "/") ∷ []) ≡ None
unfolding violation_of_request
row_205 = refl

-- te with a space: 9114 4.2
pub row_206 : violation_of_request true (field (codes ":method") (codes "GET") ∷ field (codes ":scheme") (codes "https") ∷ field (codes ":authority") (codes "a") ∷ field (codes ":path") (codes "/") ∷ field (codes "te") (codes "trailers ") ∷ []) ≡ Some ConnectionField
unfolding violation_of_request
row_206 = refl

-- a tab behind a value: 9114 10.3
pub tab_around : violation_of_request true (field (codes ":method") (codes "GET") ∷ field (codes ":scheme") (codes "https") ∷ field (codes ":authority") (codes "a") ∷ field (codes ":path") (codes "/") ∷ field (codes "x") (97 ∷ 9 ∷ []) ∷ []) ≡ Some Value
unfolding violation_of_request
tab_around = refl

-- a space within a value: 9110 5.5
pub space_within : violation_of_request true (field (codes ":method") (codes "GET") ∷ field (codes ":scheme") (codes "https") ∷ field (codes ":authority") (codes "a") ∷ field (codes ":path") (codes "/") ∷ field (codes "x") (codes "a b") ∷ []) ≡ None
unfolding violation_of_request
space_within = refl

-- a value of a space alone: 9110 5.5
pub space_alone : violation_of_request true (field (codes ":method") (codes "GET") ∷ field (codes ":scheme") (codes "https") ∷ field (codes ":authority") (codes "a") ∷ field (codes ":path") (codes "/") ∷ field (codes "x") (codes " ") ∷ []) ≡ Some Value
unfolding violation_of_request
space_alone = refl

-- an empty value: 9110 5.5
pub empty_value : violation_of_request true (field (codes ":method") (codes "GET") ∷ field (codes ":scheme") (codes "https") ∷ field (codes ":authority") (codes "a") ∷ field (codes ":path") (codes "/") ∷ field (codes "x") (codes "") ∷ []) ≡ None
unfolding violation_of_request
empty_value = refl

-- scheme h~tps: 3986 3.1
pub row_213 : violation_of_request true (field (codes ":method") (codes "GET") ∷ field (codes ":scheme") (codes "h~tps") ∷ field (codes ":authority") (codes "a") ∷ field (codes ":path") (codes "/") ∷ []) ≡ Some Scheme
unfolding violation_of_request
row_213 = refl

-- scheme a+b-c.d1: 3986 3.1
pub row_214 : violation_of_request true (field (codes ":method") (codes "GET") ∷ field (codes ":scheme") (codes "a+b-c.d1") ∷ field (codes ":authority") (codes "a") ∷ field (codes ":path") (codes "/") ∷ []) ≡ None
unfolding violation_of_request
row_214 = refl

-- CONNECT to a:: 9110 9.3.6
pub row_215 : violation_of_request true (field (codes ":method") (codes "CONNECT") ∷ field (codes ":authority") (codes "a:") ∷ []) ≡ Some Connect
unfolding violation_of_request
row_215 = refl

-- CONNECT to a:0: 9110 9.3.6
pub row_216 : violation_of_request true (field (codes ":method") (codes "CONNECT") ∷ field (codes ":authority") (codes "a:0") ∷ []) ≡ Some Connect
unfolding violation_of_request
row_216 = refl

-- CONNECT to a:1: 9110 9.3.6
pub row_217 : violation_of_request true (field (codes ":method") (codes "CONNECT") ∷ field (codes ":authority") (codes "a:1") ∷ []) ≡ None
unfolding violation_of_request
row_217 = refl

-- CONNECT to a:65535: 9110 9.3.6
pub row_218 : violation_of_request true (field (codes ":method") (codes "CONNECT") ∷ field (codes ":authority") (codes "a:65535") ∷ []) ≡ None
unfolding violation_of_request
row_218 = refl

-- CONNECT to a:65536: 9110 9.3.6
pub row_219 : violation_of_request true (field (codes ":method") (codes "CONNECT") ∷ field (codes ":authority") (codes "a:65536") ∷ []) ≡ Some Connect
unfolding violation_of_request
row_219 = refl

-- CONNECT to a:99999: 9110 9.3.6
pub row_220 : violation_of_request true (field (codes ":method") (codes "CONNECT") ∷ field (codes ":authority") (codes "a:99999") ∷ []) ≡ Some Connect
unfolding violation_of_request
row_220 = refl

-- CONNECT to a:0443: 3986 3.2.3
pub row_221 : violation_of_request true (field (codes ":method") (codes "CONNECT") ∷ field (codes ":authority") (codes "a:0443") ∷ []) ≡ None
unfolding violation_of_request
row_221 = refl

-- CONNECT to a:000443: 9110 9.3.6
pub row_222 : violation_of_request true (field (codes ":method") (codes "CONNECT") ∷ field (codes ":authority") (codes "a:000443") ∷ []) ≡ Some Connect
unfolding violation_of_request
row_222 = refl

-- CONNECT to a:x: 9110 9.3.6
pub row_223 : violation_of_request true (field (codes ":method") (codes "CONNECT") ∷ field (codes ":authority") (codes "a:x") ∷ []) ≡ Some Connect
unfolding violation_of_request
row_223 = refl

-- CONNECT to a:4x: 9110 9.3.6
pub row_224 : violation_of_request true (field (codes ":method") (codes "CONNECT") ∷ field (codes ":authority") (codes "a:4x") ∷ []) ≡ Some Connect
unfolding violation_of_request
row_224 = refl

-- CONNECT to [::1]: 9110 9.3.6
pub row_225 : violation_of_request true (field (codes ":method") (codes "CONNECT") ∷ field (codes ":authority") (codes "[::1]") ∷ []) ≡ Some Connect
unfolding violation_of_request
row_225 = refl

-- CONNECT to [::1]:443: 3986 3.2.2
pub row_226 : violation_of_request true (field (codes ":method") (codes "CONNECT") ∷ field (codes ":authority") (codes "[::1]:443") ∷ []) ≡ None
unfolding violation_of_request
row_226 = refl

-- :protocol, host unlike: 9114 4.3.1
pub row_227 : violation_of_request true (field (codes ":method") (codes "CONNECT") ∷ field (codes ":protocol") (codes "webtransport") ∷ field (codes ":scheme") (codes "https") ∷ field (codes ":authority") (codes "a") ∷ field (codes ":path") (codes "/") ∷ field (codes "host") (codes "b") ∷ []) ≡ Some Authority
unfolding violation_of_request
row_227 = refl

-- :protocol with a port without digits: 8441 4
pub row_228 : violation_of_request true (field (codes ":method") (codes "CONNECT") ∷ field (codes ":protocol") (codes "webtransport") ∷ field (codes ":scheme") (codes "https") ∷ field (codes ":authority") (codes "a:x") ∷ field (codes ":path") (codes "/") ∷ []) ≡ None
unfolding violation_of_request
row_228 = refl
