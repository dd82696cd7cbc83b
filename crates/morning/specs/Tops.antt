-- The top of the away market beside a ladder. Assumes nothing.
--     Top R qs t        t is the best away bid and offer of the quotes qs with their sizes, and the rungs of R next to them
use Rattle.std.specs.Prelude.{◌≡◌, ℕ, ◌<◌, Bool, List, None}
use Rattle.market.specs.declared.board.Quote.{Quote}
use Rattle.market.specs.Quotes.{best_bid, best_offer}
use Rattle.market.specs.Rungs.{Above, Beneath}
use Rattle.morning.specs.declared.tops.Tops.{Tops}

-- the rung above the bid is where a sell behind that bid would be displayed, the rung below the offer where a buy would;
-- an absent side has none
pub record Top (R : ℕ → Bool) (qs : List Quote) (t : Tops) : Type 0 where
  pub bid : t.bid ≡ (best_bid qs).0
  pub bid_size : t.bid_size ≡ (best_bid qs).1
  pub offer : t.offer ≡ (best_offer qs).0
  pub offer_size : t.offer_size ≡ (best_offer qs).1
  pub no_bid : t.bid ≡ 0 → t.above_bid ≡ None
  pub above : 0 < t.bid → Above R t.bid t.above_bid
  pub no_offer : t.offer ≡ 0 → t.below_offer ≡ None
  pub below : 0 < t.offer → Beneath R t.offer t.below_offer
