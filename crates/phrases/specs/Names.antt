-- The names of a line's fields. Assumes nothing.
--     field_named k p     the field at place p, counted from 1, of a line of the kind k
--     name_words n        a field's name
use Rattle.std.specs.Prelude.{ℕ, cond, List, codes, ◌==◌}
use Rattle.phrases.specs.declared.names.FieldName.{FieldName}
use Rattle.phrases.specs.declared.names.FieldName.TheVariants.{Kind, Ladder, WidthMark, Exchange, BidPrice, BidSize, OfferPrice, OfferSize, Id, Firm, Side, Origin, OrderKind, Mark, Limit, Size, Protection, Slip, Filled}

abbrev pub header_field : ℕ → FieldName
header_field p = cond (p == 2) Ladder WidthMark

abbrev pub away_field : ℕ → FieldName
away_field p = cond (p == 2) Exchange (cond (p == 3) BidPrice (cond (p == 4) BidSize (cond (p == 5) OfferPrice OfferSize)))

abbrev pub order_field : ℕ → FieldName
order_field p = cond (p == 2) Id (cond (p == 3) Firm (cond (p == 4) Side (cond (p == 5) Origin (cond (p == 6) OrderKind (cond (p == 7) Mark (cond (p == 8) Limit (cond (p == 9) Size Protection)))))))

abbrev pub reply_field : ℕ → FieldName
reply_field p = cond (p == 2) Slip Filled

-- H header · A away quote · O order · R route reply · X cancel
abbrev pub field_named : ℕ → ℕ → FieldName
field_named k p =
    cond (p == 1) Kind
    (cond (k == 72) (header_field p) (cond (k == 65) (away_field p) (cond (k == 79) (order_field p) (cond (k == 82) (reply_field p) Id))))

unfoldable pub name_words : FieldName → List ℕ
name_words Kind = codes "kind of line"
name_words Ladder = codes "ladder"
name_words WidthMark = codes "width mark"
name_words Exchange = codes "exchange"
name_words BidPrice = codes "bid price"
name_words BidSize = codes "bid size"
name_words OfferPrice = codes "offer price"
name_words OfferSize = codes "offer size"
name_words Id = codes "id"
name_words Firm = codes "firm"
name_words Side = codes "side"
name_words Origin = codes "origin"
name_words OrderKind = codes "kind"
name_words Mark = codes "mark"
name_words Limit = codes "limit"
name_words Size = codes "size"
name_words Protection = codes "protection"
name_words Slip = codes "slip"
name_words Filled = codes "filled"
