-- Records worked by hand: every sentence of RFC 4180, section 2, the support case, and each refusal with its position. By computing the scan; some
-- of them again as facts of the grammar.
use mathlib.Core.Path.{◌≡◌, refl, ap}
use mathlib.Core.List.{List, [], ◌∷◌, ◌++◌}
use Prim.Native.Nat.{ℕ}
use Rattle.record.specs.Grammar.{Reads}
use Rattle.record.specs.Scan.{Reading, up_to, done, bad, unclosed, scanned}
use Rattle.record.specs.Undone.{undone, own_bytes}
use Rattle.record.specs.Written.{doubled, written}
use Rattle.record.specs.Where.{Bad, BadAt, OpenedAt}
use Rattle.record.proofs.Theorems.Sound.{sound}
use Rattle.record.proofs.Theorems.Where.{bad_at_iff, unclosed_at_iff}
use Rattle.record.proofs.Laws.Quick.{quick, worked}

-- 1. Each record stands on a line of its own, ended by CRLF; the next one starts behind it.
-- aa,bb CRLF cc,dd CRLF
pub on_a_line : scanned (97 ∷ 97 ∷ 44 ∷ 98 ∷ 98 ∷ 13 ∷ 10 ∷ 99 ∷ 99 ∷ 44 ∷ 100 ∷ 100 ∷ 13 ∷ 10 ∷ []) ≡ up_to ((0, 2) ∷ (3, 5) ∷ []) (done 7)
unfolding quick
on_a_line = worked _ _ refl

-- cc,dd CRLF
pub next_line : scanned (99 ∷ 99 ∷ 44 ∷ 100 ∷ 100 ∷ 13 ∷ 10 ∷ []) ≡ up_to ((0, 2) ∷ (3, 5) ∷ []) (done 7)
unfolding quick
next_line = worked _ _ refl

-- 2. The last record may have no line break at its end.
-- cc,dd
pub last_without_break : scanned (99 ∷ 99 ∷ 44 ∷ 100 ∷ 100 ∷ []) ≡ up_to ((0, 2) ∷ (3, 5) ∷ []) (done 5)
unfolding quick
last_without_break = worked _ _ refl

-- 3. A header line is a record like any other.
-- name,size CRLF water,10 CRLF
pub header : scanned (110 ∷ 97 ∷ 109 ∷ 101 ∷ 44 ∷ 115 ∷ 105 ∷ 122 ∷ 101 ∷ 13 ∷ 10 ∷ 119 ∷ 97 ∷ 116 ∷ 101 ∷ 114 ∷ 44 ∷ 49 ∷ 48 ∷ 13 ∷ 10 ∷ [])
    ≡ up_to ((0, 4) ∷ (5, 9) ∷ []) (done 11)
unfolding quick
header = worked _ _ refl

-- 4. Fields stand between commas; spaces are part of a field; the last field has no comma behind it, so a comma there is an empty field's.
-- a , b LF
pub spaces_kept : scanned (97 ∷ 32 ∷ 44 ∷ 32 ∷ 98 ∷ 10 ∷ []) ≡ up_to ((0, 2) ∷ (3, 5) ∷ []) (done 6)
unfolding quick
spaces_kept = worked _ _ refl

-- a,
pub comma_at_end : scanned (97 ∷ 44 ∷ []) ≡ up_to ((0, 1) ∷ (2, 2) ∷ []) (done 2)
unfolding quick
comma_at_end = worked _ _ refl

-- ,,
pub three_empty : scanned (44 ∷ 44 ∷ []) ≡ up_to ((0, 0) ∷ (1, 1) ∷ (2, 2) ∷ []) (done 2)
unfolding quick
three_empty = worked _ _ refl

-- 5. A field may stand in quotes, or not; in one that does not, no quote may stand.
-- "aa","bb",cc CRLF
pub some_quoted : scanned (34 ∷ 97 ∷ 97 ∷ 34 ∷ 44 ∷ 34 ∷ 98 ∷ 98 ∷ 34 ∷ 44 ∷ 99 ∷ 99 ∷ 13 ∷ 10 ∷ [])
    ≡ up_to ((1, 3) ∷ (6, 8) ∷ (10, 12) ∷ []) (done 14)
unfolding quick
some_quoted = worked _ _ refl

-- a"b
pub quote_in_plain : scanned (97 ∷ 34 ∷ 98 ∷ []) ≡ up_to ((0, 1) ∷ []) (bad 1)
unfolding quick
quote_in_plain = worked _ _ refl

-- a"
pub quote_at_plain_end : scanned (97 ∷ 34 ∷ []) ≡ up_to ((0, 1) ∷ []) (bad 1)
unfolding quick
quote_at_plain_end = worked _ _ refl

-- 6. In quotes, line breaks, quotes and commas may stand.
-- "aa","b CRLF bb","cc" CRLF
pub line_break_in_quotes : scanned (34 ∷ 97 ∷ 97 ∷ 34 ∷ 44 ∷ 34 ∷ 98 ∷ 13 ∷ 10 ∷ 98 ∷ 98 ∷ 34 ∷ 44 ∷ 34 ∷ 99 ∷ 99 ∷ 34 ∷ 13 ∷ 10 ∷ [])
    ≡ up_to ((1, 3) ∷ (6, 11) ∷ (14, 16) ∷ []) (done 19)
unfolding quick
line_break_in_quotes = worked _ _ refl

-- "a,b",c
pub comma_in_quotes : scanned (34 ∷ 97 ∷ 44 ∷ 98 ∷ 34 ∷ 44 ∷ 99 ∷ []) ≡ up_to ((1, 4) ∷ (6, 7) ∷ []) (done 7)
unfolding quick
comma_in_quotes = worked _ _ refl

-- "a CR b LF c" LF
pub lone_breaks_in_quotes : scanned (34 ∷ 97 ∷ 13 ∷ 98 ∷ 10 ∷ 99 ∷ 34 ∷ 10 ∷ []) ≡ up_to ((1, 6) ∷ []) (done 8)
unfolding quick
lone_breaks_in_quotes = worked _ _ refl

-- 7. A quote in a field is doubled.
-- "aa","b""bb","cc"
pub doubled_quote : scanned (34 ∷ 97 ∷ 97 ∷ 34 ∷ 44 ∷ 34 ∷ 98 ∷ 34 ∷ 34 ∷ 98 ∷ 98 ∷ 34 ∷ 44 ∷ 34 ∷ 99 ∷ 99 ∷ 34 ∷ [])
    ≡ up_to ((1, 3) ∷ (6, 11) ∷ (14, 16) ∷ []) (done 17)
unfolding quick
doubled_quote = worked _ _ refl

-- """"
pub one_quote_alone : scanned (34 ∷ 34 ∷ 34 ∷ 34 ∷ []) ≡ up_to ((1, 3) ∷ []) (done 4)
unfolding quick
one_quote_alone = worked _ _ refl

-- An empty record is one empty field; in quotes too.
-- (nothing)
pub empty : scanned [] ≡ up_to ((0, 0) ∷ []) (done 0)
unfolding quick
empty = worked _ _ refl

-- LF
pub empty_line : scanned (10 ∷ []) ≡ up_to ((0, 0) ∷ []) (done 1)
unfolding quick
empty_line = worked _ _ refl

-- CRLF
pub empty_crlf : scanned (13 ∷ 10 ∷ []) ≡ up_to ((0, 0) ∷ []) (done 2)
unfolding quick
empty_crlf = worked _ _ refl

-- "" LF
pub empty_quoted : scanned (34 ∷ 34 ∷ 10 ∷ []) ≡ up_to ((1, 1) ∷ []) (done 3)
unfolding quick
empty_quoted = worked _ _ refl

-- A record may end with a bare LF.
-- a,b LF c
pub bare_lf_law : scanned (97 ∷ 44 ∷ 98 ∷ 10 ∷ 99 ∷ []) ≡ up_to ((0, 1) ∷ (2, 3) ∷ []) (done 4)
unfolding quick
bare_lf_law = worked _ _ refl

-- 9: a CR that no LF follows, at the CR, also if it is the last byte: before a field, in one, behind a closing quote.
-- CR b
pub cr_first : scanned (13 ∷ 98 ∷ []) ≡ up_to ((0, 0) ∷ []) (bad 0)
unfolding quick
cr_first = worked _ _ refl

-- CR
pub cr_first_and_last : scanned (13 ∷ []) ≡ up_to ((0, 0) ∷ []) (bad 0)
unfolding quick
cr_first_and_last = worked _ _ refl

-- a CR b
pub cr_in_field : scanned (97 ∷ 13 ∷ 98 ∷ []) ≡ up_to ((0, 1) ∷ []) (bad 1)
unfolding quick
cr_in_field = worked _ _ refl

-- a CR
pub cr_last : scanned (97 ∷ 13 ∷ []) ≡ up_to ((0, 1) ∷ []) (bad 1)
unfolding quick
cr_last = worked _ _ refl

-- a CR CRLF
pub cr_cr_lf : scanned (97 ∷ 13 ∷ 13 ∷ 10 ∷ []) ≡ up_to ((0, 1) ∷ []) (bad 1)
unfolding quick
cr_cr_lf = worked _ _ refl

-- "a" CR b
pub cr_behind_quote : scanned (34 ∷ 97 ∷ 34 ∷ 13 ∷ 98 ∷ []) ≡ up_to ((1, 2) ∷ []) (bad 3)
unfolding quick
cr_behind_quote = worked _ _ refl

-- "a" CR
pub cr_behind_quote_last : scanned (34 ∷ 97 ∷ 34 ∷ 13 ∷ []) ≡ up_to ((1, 2) ∷ []) (bad 3)
unfolding quick
cr_behind_quote_last = worked _ _ refl

-- a, CR
pub cr_behind_comma : scanned (97 ∷ 44 ∷ 13 ∷ []) ≡ up_to ((0, 1) ∷ (2, 2) ∷ []) (bad 2)
unfolding quick
cr_behind_comma = worked _ _ refl

-- 9: a byte behind a closing quote, a space too; the fields up to there are those read.
-- "a"b
pub byte_behind_quote : scanned (34 ∷ 97 ∷ 34 ∷ 98 ∷ []) ≡ up_to ((1, 2) ∷ []) (bad 3)
unfolding quick
byte_behind_quote = worked _ _ refl

-- x,"a" ,b
pub space_behind_quote : scanned (120 ∷ 44 ∷ 34 ∷ 97 ∷ 34 ∷ 32 ∷ 44 ∷ 98 ∷ []) ≡ up_to ((0, 1) ∷ (3, 4) ∷ []) (bad 5)
unfolding quick
space_behind_quote = worked _ _ refl

-- 10: a quote that is never closed, at that quote; a doubled quote closes nothing.
-- "a
pub never_closed : scanned (34 ∷ 97 ∷ []) ≡ up_to [] (unclosed 0)
unfolding quick
never_closed = worked _ _ refl

-- a,"b
pub never_closed_later : scanned (97 ∷ 44 ∷ 34 ∷ 98 ∷ []) ≡ up_to ((0, 1) ∷ []) (unclosed 2)
unfolding quick
never_closed_later = worked _ _ refl

-- "ab""
pub doubled_at_end : scanned (34 ∷ 97 ∷ 98 ∷ 34 ∷ 34 ∷ []) ≡ up_to [] (unclosed 0)
unfolding quick
doubled_at_end = worked _ _ refl

-- "
pub only_a_quote : scanned (34 ∷ []) ≡ up_to [] (unclosed 0)
unfolding quick
only_a_quote = worked _ _ refl

-- """
pub three_quotes : scanned (34 ∷ 34 ∷ 34 ∷ []) ≡ up_to [] (unclosed 0)
unfolding quick
three_quotes = worked _ _ refl

-- The least byte, one that is no ASCII, and the greatest stand in a field.
-- 0, 128 and 255 as bytes, then a comma
pub any_byte : scanned (0 ∷ 128 ∷ 255 ∷ 44 ∷ []) ≡ up_to ((0, 3) ∷ (4, 4) ∷ []) (done 4)
unfolding quick
any_byte = worked _ _ refl

-- The support case: a compound's name holds a comma, and stays one field.
-- N,N-dimethylformamide
abbrev compound : List ℕ
compound = 78 ∷ 44 ∷ 78 ∷ 45 ∷ 100 ∷ 105 ∷ 109 ∷ 101 ∷ 116 ∷ 104 ∷ 121 ∷ 108 ∷ 102 ∷ 111 ∷ 114 ∷ 109 ∷ 97 ∷ 109 ∷ 105 ∷ 100 ∷ 101 ∷ []

-- "N,N-dimethylformamide",10
abbrev support : List ℕ
support = 34 ∷ (compound ++ (34 ∷ 44 ∷ 49 ∷ 48 ∷ []))

pub support_scanned : scanned support ≡ up_to ((1, 22) ∷ (24, 26) ∷ []) (done 26)
unfolding quick
support_scanned = worked _ _ refl

pub support_read : Reads support ((1, 22) ∷ (24, 26) ∷ []) 26
support_read = sound support _ 26 support_scanned

pub support_fields : own_bytes support ((1, 22) ∷ (24, 26) ∷ []) ≡ compound ∷ (49 ∷ 48 ∷ []) ∷ []
unfolding own_bytes undone
support_fields = refl

-- "aa","b""bb","cc": the fields' own bytes, with the doubled quote undone; and """" is one quote
pub doubled_fields : own_bytes (34 ∷ 97 ∷ 97 ∷ 34 ∷ 44 ∷ 34 ∷ 98 ∷ 34 ∷ 34 ∷ 98 ∷ 98 ∷ 34 ∷ 44 ∷ 34 ∷ 99 ∷ 99 ∷ 34 ∷ []) ((1, 3) ∷ (6, 11) ∷ (14, 16) ∷ [])
    ≡ (97 ∷ 97 ∷ []) ∷ (98 ∷ 34 ∷ 98 ∷ 98 ∷ []) ∷ (99 ∷ 99 ∷ []) ∷ []
unfolding own_bytes undone
doubled_fields = refl

pub one_quote_field : own_bytes (34 ∷ 34 ∷ 34 ∷ 34 ∷ []) ((1, 3) ∷ []) ≡ (34 ∷ []) ∷ []
unfolding own_bytes undone
one_quote_field = refl

-- a, and an empty field, as a writer writes them: "a",""
pub as_written : written ((97 ∷ []) ∷ [] ∷ []) ≡ 34 ∷ 97 ∷ 34 ∷ 44 ∷ 34 ∷ 34 ∷ []
unfolding written doubled
as_written = refl

-- By the grammar: a, is read; a CR b is 9 at 1, and so is a CR at the end; a,"b is 10 at 2, and "ab"" at 0.
pub comma_at_end_read : Reads (97 ∷ 44 ∷ []) ((0, 1) ∷ (2, 2) ∷ []) 2
comma_at_end_read = sound _ _ 2 comma_at_end

pub cr_in_field_bad : Bad (97 ∷ 13 ∷ 98 ∷ []) × BadAt (97 ∷ 13 ∷ 98 ∷ []) 1
cr_in_field_bad = (bad_at_iff _ 1).0 (ap (λ (r : Reading). r.ending) cr_in_field)

pub cr_last_bad : Bad (97 ∷ 13 ∷ []) × BadAt (97 ∷ 13 ∷ []) 1
cr_last_bad = (bad_at_iff _ 1).0 (ap (λ (r : Reading). r.ending) cr_last)

pub never_closed_later_opened : OpenedAt (97 ∷ 44 ∷ 34 ∷ 98 ∷ []) 2
never_closed_later_opened = (unclosed_at_iff _ 2).0 (ap (λ (r : Reading). r.ending) never_closed_later)

pub doubled_at_end_opened : OpenedAt (34 ∷ 97 ∷ 98 ∷ 34 ∷ 34 ∷ []) 0
doubled_at_end_opened = (unclosed_at_iff _ 0).0 (ap (λ (r : Reading). r.ending) doubled_at_end)
