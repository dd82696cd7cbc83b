-- The two sides of the market: rules are told once, for an order of a side. 0 is no price, and bounds nothing. Assumes nothing.
--     flip s, is_buy s, same_side s t     the other side; tests
--     ok s bound p, Ok s bound p          p is no more aggressive than bound for side s
--     past s b q, Past s b q              q is beyond b: for a buy higher, for a sell lower
--     Unlocked s w d                      an order displayed at d does not lock or cross the price w of the other side
--     Behind s b d                        displayed d is not better than booked b
--     top s x y, tops s f k               the better of two prices of a side; the best of f 0 to f (k - 1)
--     facing m s                          the best price of a market that a side trades with: a buy meets the offer
--     national e m                        the best of two markets together
use Rattle.std.specs.Prelude.{◌≡◌, ℕ, zero, suc, ◌<◌, ◌≤◌, Bool, true, false, cond, not, ◌||◌, ◌⊎◌, ◌==◌, nat_le, nat_lt}
use Rattle.values.specs.declared.terms.Side.{Side}
use Rattle.values.specs.declared.terms.Side.TheVariants.{Buy, Sell}
use Rattle.rules.specs.declared.Bests.{Bests}

abbrev pub flip : Side → Side
flip Buy = Sell
flip Sell = Buy

abbrev pub is_buy : Side → Bool
is_buy Buy = true
is_buy Sell = false

abbrev pub same_side : Side → Side → Bool
same_side Buy s = is_buy s
same_side Sell s = not (is_buy s)

-- a buy may pay up to the bound, a sell may take down to it
abbrev pub ok : Side → ℕ → ℕ → Bool
ok Buy b p = b == 0 || nat_le p b
ok Sell b p = nat_le b p

abbrev pub Ok : Side → ℕ → ℕ → Type 0
Ok Buy b p = (b ≡ 0) ⊎ (p ≤ b)
Ok Sell b p = b ≤ p

abbrev pub past : Side → ℕ → ℕ → Bool
past Buy b q = nat_lt b q
past Sell b q = nat_lt q b

abbrev pub Past : Side → ℕ → ℕ → Type 0
Past Buy b q = b < q
Past Sell b q = q < b

-- a buy is displayed below the offer w, a sell above the bid w
abbrev pub Unlocked : Side → ℕ → ℕ → Type 0
Unlocked Buy w d = (w ≡ 0) ⊎ (d < w)
Unlocked Sell w d = (d ≡ 0) ⊎ (w < d)

-- a buy is displayed at most at its booked price, a sell at least; a displayed 0 is no price
abbrev pub Behind : Side → ℕ → ℕ → Type 0
Behind Buy b d = d ≤ b
Behind Sell b d = (d ≡ 0) ⊎ (b ≤ d)

-- of bids the higher, of offers the lower; 0 is passed over
abbrev pub top : Side → ℕ → ℕ → ℕ
top s x y = cond (x == 0) y (cond (y == 0) x (cond (past s x y) y x))

unfoldable pub tops : Side → (ℕ → ℕ) → ℕ → ℕ
tops s f zero = 0
tops s f (suc k) = top s (f k) (tops s f k)

abbrev pub facing : Bests → Side → ℕ
facing m Buy = m.offer
facing m Sell = m.bid

-- the higher of the bids and the lower of the offers that are present
abbrev pub national : Bests → Bests → Bests
national e m = record { bid = top Buy e.bid m.bid; offer = top Sell e.offer m.offer }
