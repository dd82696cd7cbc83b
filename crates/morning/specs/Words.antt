-- A morning in words, byte for byte. Assumes nothing.
--     side_text s p n        one side of the market: its price and size, or that there is none; a buy's side is the bid
--     rung_text s o          the rung next to it, where there is one
--     quote_line e q         what the exchange e quotes
--     top_line t             the best of each side with its size and the rung next to it
--     passed_line c          that a call is passed over
--     agreement same         whether both boards agree
--     dump_from i bs         bytes as pairs of digits, sixteen to a line, the first of them standing at the place i
use Rattle.std.specs.Prelude.{ℕ, ◌+◌, ◌/◌, ◌%◌, Bool, cond, List, [], ◌∷◌, ◌++◌, Some, None, decimal, Option, ◌==◌, nat_lt}
use Rattle.std.proofs.Math.Utf8.{encode}
use Rattle.market.specs.declared.board.Quote.{Quote}
use Rattle.values.specs.declared.terms.Side.{Side}
use Rattle.values.specs.declared.terms.Side.TheVariants.{Buy, Sell}
use Rattle.values.specs.declared.calls.Call.{Call}
use Rattle.values.specs.Texts.{call_text}
use Rattle.morning.specs.declared.tops.Tops.{Tops}

-- a number, ' x ', a number
abbrev pub sized : ℕ → ℕ → List ℕ
sized p n = decimal p ++ (32 ∷ 120 ∷ 32 ∷ decimal n)

-- 'no bid' or 'bid P x N', 'no offer' or 'offer P x N'
abbrev pub side_text : Side → ℕ → ℕ → List ℕ
side_text Buy p n = cond (p == 0) (110 ∷ 111 ∷ 32 ∷ 98 ∷ 105 ∷ 100 ∷ []) (98 ∷ 105 ∷ 100 ∷ 32 ∷ sized p n)
side_text Sell p n = cond (p == 0) (110 ∷ 111 ∷ 32 ∷ 111 ∷ 102 ∷ 102 ∷ 101 ∷ 114 ∷ []) (111 ∷ 102 ∷ 102 ∷ 101 ∷ 114 ∷ 32 ∷ sized p n)

-- ', rung above P' of a bid, ', rung below P' of an offer
abbrev pub rung_text : Side → Option ℕ → List ℕ
rung_text s None = []
rung_text Buy (Some p) = 44 ∷ 32 ∷ 114 ∷ 117 ∷ 110 ∷ 103 ∷ 32 ∷ 97 ∷ 98 ∷ 111 ∷ 118 ∷ 101 ∷ 32 ∷ decimal p
rung_text Sell (Some p) = 44 ∷ 32 ∷ 114 ∷ 117 ∷ 110 ∷ 103 ∷ 32 ∷ 98 ∷ 101 ∷ 108 ∷ 111 ∷ 119 ∷ 32 ∷ decimal p

-- 'exchange E: BID, OFFER'
abbrev pub quote_line : ℕ → Quote → List ℕ
quote_line e q =
    101 ∷ 120 ∷ 99 ∷ 104 ∷ 97 ∷ 110 ∷ 103 ∷ 101 ∷ 32 ∷ (decimal e ++ (58 ∷ 32 ∷ (side_text Buy q.bid q.bid_size ++ (44 ∷ 32 ∷ (side_text Sell q.offer q.offer_size ++ (10 ∷ []))))))

-- '  best: BID, RUNG; OFFER, RUNG'
abbrev pub top_line : Tops → List ℕ
top_line t =
    32 ∷ 32 ∷ 98 ∷ 101 ∷ 115 ∷ 116 ∷ 58 ∷ 32 ∷ (side_text Buy t.bid t.bid_size ++ (rung_text Buy t.above_bid ++ (59 ∷ 32 ∷ (side_text Sell t.offer t.offer_size ++ (rung_text Sell t.below_offer ++ (10 ∷ []))))))

-- 'passed over: CALL'
abbrev pub passed_line : Call → List ℕ
passed_line c = 112 ∷ 97 ∷ 115 ∷ 115 ∷ 101 ∷ 100 ∷ 32 ∷ 111 ∷ 118 ∷ 101 ∷ 114 ∷ 58 ∷ 32 ∷ (call_text c ++ (10 ∷ []))

-- 'both boards agree: ' and 'true' or 'false'
abbrev pub agreement : Bool → List ℕ
agreement same =
    98 ∷ 111 ∷ 116 ∷ 104 ∷ 32 ∷ 98 ∷ 111 ∷ 97 ∷ 114 ∷ 100 ∷ 115 ∷ 32 ∷ 97 ∷ 103 ∷ 114 ∷ 101 ∷ 101 ∷ 58 ∷ 32 ∷ (cond same (116 ∷ 114 ∷ 117 ∷ 101 ∷ []) (102 ∷ 97 ∷ 108 ∷ 115 ∷ 101 ∷ []) ++ (10 ∷ []))

-- 0 to 9, a to f
abbrev pub hex_digit : ℕ → ℕ
hex_digit n = cond (nat_lt n 10) (48 + n) (87 + n)

-- the byte at the place i, and a blank, or the end of the line after sixteen
abbrev pub byte_text : ℕ → ℕ → List ℕ
byte_text i b = encode (hex_digit (b / 16)) ++ (encode (hex_digit (b % 16)) ++ cond (i % 16 == 15) (10 ∷ []) (32 ∷ []))

unfoldable pub dump_from : ℕ → List ℕ → List ℕ
dump_from i [] = []
dump_from i (b ∷ bs) = byte_text i b ++ dump_from (i + 1) bs
