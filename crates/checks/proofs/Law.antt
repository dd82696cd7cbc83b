-- The field checks answer by the leftmost field of the topmost row. Assumes nothing.
use Rattle.std.proofs.Common.{◌≡◌, ℕ, Bool, refl, ap, ◌∙◌}
use Rattle.market.specs.declared.board.Quote.{Quote}
use Rattle.values.specs.declared.terms.Letter.{Letter}
use Rattle.values.specs.declared.calls.Header.{Header}
use Rattle.values.specs.declared.calls.OrderFields.{OrderFields}
use Rattle.values.specs.declared.calls.Call.{Call}
use Rattle.values.specs.declared.calls.Call.TheVariants as call
use Rattle.checks.specs.declared.checked.CheckedCall.TheVariants as checked
use Rattle.checks.specs.Checked.{checked_header, checked_away, checked_order, checked_cancel, checked_reply, checked_call}
use Rattle.checks.specs.Law.{header_rows, away_rows, order_rows, cancel_rows, reply_rows, kind_letter, header_of, fields_of, asked, HeaderJudged, CallJudged}
use Rattle.checks.proofs.Judging.{InOrder, and_then, done, carried, ordered}
use Rattle.checks.proofs.Decisions.{within_decides, up_to_decides, on_ladder_decides, rung_decides, size_decides, wide_decides, limit_decides, handled_decides, ladder_decides, side_decides, origin_decides, kind_decides, mark_decides}

same_header : (a b : Letter) (m n : ℕ) → a ≡ b → m ≡ n → ◌≡◌ {A = Header} (record { ladder = a; width = m }) (record { ladder = b; width = n })
same_header a b m n e f = cc

header_in_order : (h : Header) → InOrder (header_rows h) (λ s. header_of s ≡ h) (checked_header h)
header_in_order h =
    and_then _ _ _ _ _ _ (ladder_decides h.ladder) (λ ladder l.
    and_then _ _ _ _ _ _ (wide_decides h.width) (λ wide w.
    done _ _ (same_header _ h.ladder _ h.width l w)))

pub header_judged : (h : Header) → HeaderJudged h (checked_header h)
header_judged h = ordered (header_rows h) (λ s. header_of s ≡ h) (checked_header h) refl (header_in_order h)

away_in_order : (rung : ℕ → Bool) (exchange : ℕ) (q : Quote) → InOrder (away_rows rung exchange q) (λ v. asked v ≡ call.Away exchange q) (checked_away rung exchange q)
away_in_order rung exchange q =
    and_then _ _ _ _ _ _ (within_decides 1 15 2 exchange) (λ _ _.
    and_then _ _ _ _ _ _ (up_to_decides 100000 3 q.bid) (λ _ _.
    and_then _ _ _ _ _ _ (size_decides 4 q.bid q.bid_size) (λ _ _.
    and_then _ _ _ _ _ _ (up_to_decides 100000 5 q.offer) (λ _ _.
    and_then _ _ _ _ _ _ (size_decides 6 q.offer q.offer_size) (λ _ _.
    and_then _ _ _ _ _ _ (on_ladder_decides rung 3 q.bid) (λ _ _.
    and_then _ _ _ _ _ _ (on_ladder_decides rung 5 q.offer) (λ _ _.
    done _ _ refl)))))))

same_fields : (o p : OrderFields) → o.id ≡ p.id → o.firm ≡ p.firm → o.side ≡ p.side → o.origin ≡ p.origin → o.kind ≡ p.kind → o.mark ≡ p.mark → o.limit ≡ p.limit → o.size ≡ p.size → o.protection ≡ p.protection → o ≡ p
same_fields o p id firm side origin kind mark limit size protection = same o.id o.firm o.side o.origin o.kind o.mark o.limit o.size o.protection id firm side origin kind mark limit size protection
  where
    same : (a b : ℕ) (c d e f : Letter) (g h i : ℕ) → a ≡ p.id → b ≡ p.firm → c ≡ p.side → d ≡ p.origin → e ≡ p.kind → f ≡ p.mark → g ≡ p.limit → h ≡ p.size → i ≡ p.protection → ◌≡◌ {A = OrderFields} (record { id = a; firm = b; side = c; origin = d; kind = e; mark = f; limit = g; size = h; protection = i }) (record { id = p.id; firm = p.firm; side = p.side; origin = p.origin; kind = p.kind; mark = p.mark; limit = p.limit; size = p.size; protection = p.protection })
    same a b c d e f g h i ea eb ec ed ee ef eg eh ei = cc

order_in_order : (rung : ℕ → Bool) (o : OrderFields) → InOrder (order_rows rung o) (λ v. fields_of v ≡ o) (checked_order rung o)
order_in_order rung o =
    and_then _ _ _ _ _ _ (within_decides 1 999999 2 o.id) (λ id is-id.
    and_then _ _ _ _ _ _ (within_decides 1 9999 3 o.firm) (λ firm is-firm.
    and_then _ _ _ _ _ _ (side_decides o.side) (λ side is-side.
    and_then _ _ _ _ _ _ (origin_decides o.origin) (λ origin is-origin.
    and_then _ _ _ _ _ _ (kind_decides o.kind) (λ kind is-kind.
    and_then _ _ _ _ _ _ (mark_decides o.mark) (λ mark is_mark.
    and_then _ _ _ _ _ _ (limit_decides o.kind kind o.limit is-kind) (λ limit is-limit.
    and_then _ _ _ _ _ _ (within_decides 1 9999 9 o.size) (λ size is-size.
    and_then _ _ _ _ _ _ (up_to_decides 20 10 o.protection) (λ protection is-protection.
    and_then _ _ _ _ _ _ (rung_decides rung 8 o.limit limit is-limit) (λ price is-price.
    and_then _ _ _ _ _ _ (handled_decides o.kind kind is-kind) (λ kept is-kept.
    done _ _ (same_fields _ o is-id is-firm is-side is-origin (ap kind_letter is-kept ∙ is-kind) is_mark (is-price ∙ is-limit) is-size is-protection))))))))))))

cancel_in_order : (id : ℕ) → InOrder (cancel_rows id) (λ v. asked v ≡ call.Cancel id) (checked_cancel id)
cancel_in_order id = and_then _ _ _ _ _ _ (within_decides 1 999999 2 id) (λ _ _. done _ _ refl)

reply_in_order : (slip filled : ℕ) → InOrder (reply_rows slip filled) (λ v. asked v ≡ call.Reply slip filled) (checked_reply slip filled)
reply_in_order slip filled =
    and_then _ _ _ _ _ _ (within_decides 1 15000000 2 slip) (λ _ _.
    and_then _ _ _ _ _ _ (up_to_decides 9999 3 filled) (λ _ _.
    done _ _ refl))

pub call_judged : (rung : ℕ → Bool) (c : Call) → CallJudged rung c (checked_call rung c)
call_judged rung call.Open = (tt, refl)
call_judged rung (call.Away exchange q) = ordered (away_rows rung exchange q) _ (checked_away rung exchange q) refl (away_in_order rung exchange q)
call_judged rung (call.Order o) =
    ordered (order_rows rung o) (λ v. asked v ≡ call.Order o) (checked_call rung (call.Order o)) refl
    (carried (order_rows rung o) (λ v. fields_of v ≡ o) (λ v. asked v ≡ call.Order o) (checked_order rung o) checked.Order (order_in_order rung o) (λ v e. ap call.Order e))
call_judged rung (call.Cancel id) = ordered (cancel_rows id) _ (checked_cancel id) refl (cancel_in_order id)
call_judged rung (call.Reply slip filled) = ordered (reply_rows slip filled) _ (checked_reply slip filled) refl (reply_in_order slip filled)
