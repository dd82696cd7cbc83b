-- What a call asks, in words. Assumes nothing.
--     side_term l, origin_term l, mark_term l     what a letter field of an order says
--     price_term kind p, protection_term n        what an order asks of its price
--     bid_term p q, offer_term p q                one side of a quote; price 0 and size 0 are none
--     term_words t                                a term in words
--     order_words o, quote_words q                an order and a quote
--     asked_words c                               the sentence of a call
use Rattle.std.specs.Prelude.{ℕ, cond, ◌&&◌, List, [], ◌∷◌, codes, decimal, ◌==◌}
use Rattle.market.specs.declared.board.Quote.{Quote}
use Rattle.values.specs.declared.calls.Call.{Call}
use Rattle.values.specs.declared.calls.Call.TheVariants.{Open, Away, Order, Cancel, Reply}
use Rattle.values.specs.declared.calls.OrderFields.{OrderFields}
use Rattle.values.specs.declared.terms.Letter.{Letter}
use Rattle.values.specs.Texts.{capital, letter_text}
use Rattle.phrases.specs.declared.asked.Term.{Term}
use Rattle.phrases.specs.declared.asked.Term.TheVariants.{Buy, Sell, Customer, NotCustomer, Routed, NotRouted, Limit, Market, Immediate, AllOrNone, Protected, Unprotected, Bid, NoBid, Offer, NoOffer, Unlisted}
use Rattle.words.specs.Money.{say, dollars}

abbrev pub side_term : Letter → Term
side_term l = cond (capital l == 66) Buy (cond (capital l == 83) Sell (Unlisted l))

abbrev pub origin_term : Letter → Term
origin_term l = cond (capital l == 67) Customer (cond (capital l == 78) NotCustomer (Unlisted l))

abbrev pub mark_term : Letter → Term
mark_term l = cond (capital l == 82) Routed (cond (capital l == 68) NotRouted (Unlisted l))

abbrev pub price_term : Letter → ℕ → Term
price_term l p = cond (capital l == 76) (Limit p) (cond (capital l == 77) Market (cond (capital l == 73) Immediate (cond (capital l == 75) AllOrNone (Unlisted l))))

abbrev pub protection_term : ℕ → Term
protection_term n = cond (n == 0) Unprotected (Protected n)

abbrev pub bid_term : ℕ → ℕ → Term
bid_term p q = cond (p == 0 && q == 0) NoBid (Bid p q)

abbrev pub offer_term : ℕ → ℕ → Term
offer_term p q = cond (p == 0 && q == 0) NoOffer (Offer p q)

unfoldable pub term_words : Term → List ℕ
term_words Buy = codes "buy"
term_words Sell = codes "sell"
term_words Customer = codes "customer"
term_words NotCustomer = codes "not a customer"
term_words Routed = codes "may be routed"
term_words NotRouted = codes "do not route"
term_words (Limit p) = say (codes "limit " ∷ dollars p ∷ [])
term_words Market = codes "at the market"
term_words Immediate = codes "immediate"
term_words AllOrNone = codes "all or none"
term_words (Protected n) = say (codes "price protection " ∷ decimal n ∷ [])
term_words Unprotected = codes "no price protection"
term_words (Bid p q) = say (codes "bid " ∷ dollars p ∷ codes " for " ∷ decimal q ∷ [])
term_words NoBid = codes "no bid"
term_words (Offer p q) = say (codes "offer " ∷ dollars p ∷ codes " for " ∷ decimal q ∷ [])
term_words NoOffer = codes "no offer"
term_words (Unlisted l) = say (codes "unlisted letter " ∷ letter_text l ∷ [])

unfoldable pub terms_words : OrderFields → List ℕ
terms_words o =
    say (term_words (price_term o.kind o.limit) ∷ codes ", " ∷ term_words (origin_term o.origin) ∷ codes ", " ∷ term_words (mark_term o.mark) ∷ codes ", " ∷ term_words (protection_term o.protection) ∷ [])

unfoldable pub order_words : OrderFields → List ℕ
order_words o =
    say (codes "Order " ∷ decimal o.id ∷ codes " of firm " ∷ decimal o.firm ∷ codes ": " ∷ term_words (side_term o.side) ∷ codes " " ∷ decimal o.size ∷ codes ", " ∷ terms_words o ∷ codes "." ∷ [])

unfoldable pub quote_words : Quote → List ℕ
quote_words q = say (term_words (bid_term q.bid q.bid_size) ∷ codes ", " ∷ term_words (offer_term q.offer q.offer_size) ∷ [])

unfoldable pub asked_words : Call → List ℕ
asked_words Open = codes "Open the series."
asked_words (Away exchange q) = say (codes "Exchange " ∷ decimal exchange ∷ codes " quotes " ∷ quote_words q ∷ codes "." ∷ [])
asked_words (Order o) = order_words o
asked_words (Cancel id) = say (codes "Cancel order " ∷ decimal id ∷ codes "." ∷ [])
asked_words (Reply slip filled) = say (codes "Reply to slip " ∷ decimal slip ∷ codes ": " ∷ decimal filled ∷ codes " filled." ∷ [])
