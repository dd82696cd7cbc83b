-- What a character says as a letter field, and what a letter says in each field. Assumes nothing.
--     letter_of c                                         the letter field of a capital
--     ladder_by, side_by, origin_by, kind_by, mark_by     what a letter says in that field, if it is listed there
use Rattle.std.specs.Prelude.{ℕ, cond, Some, None, Option, ◌==◌}
use Rattle.market.specs.declared.any.AnyLadder.{AnyLadder}
use Rattle.market.specs.declared.any.AnyLadder.TheVariants.{Cents, CentsThenFives, FivesThenTens}
use Rattle.values.specs.declared.terms.Letter.{Letter}
use Rattle.values.specs.declared.terms.Letter.TheVariants as letter
use Rattle.values.specs.declared.terms.Side.{Side}
use Rattle.values.specs.declared.terms.Side.TheVariants.{Buy, Sell}
use Rattle.values.specs.declared.terms.Origin.{Origin}
use Rattle.values.specs.declared.terms.Origin.TheVariants.{Customer, Other}
use Rattle.values.specs.declared.terms.Kind.{Kind}
use Rattle.values.specs.declared.terms.Kind.TheVariants.{Limit, Market, Immediate, AllOrNone}
use Rattle.values.specs.declared.terms.Mark.{Mark}
use Rattle.values.specs.declared.terms.Mark.TheVariants.{Route, DoNotRoute}

-- the letters that some field knows; another capital is kept as it came
abbrev pub letter_of : ℕ → Letter
letter_of c =
    cond (c == 80) letter.P (cond (c == 77) letter.M (cond (c == 78) letter.N (cond (c == 66) letter.B (cond (c == 83) letter.S (cond (c == 67) letter.C (cond (c == 76) letter.L (cond (c == 73) letter.I (cond (c == 75) letter.K (cond (c == 82) letter.R (cond (c == 68) letter.D (letter.Unlisted c)))))))))))

-- P every cent, M cents and then fives, N fives and then tens
abbrev pub ladder_by : Letter → Option AnyLadder
ladder_by letter.P = Some Cents
ladder_by letter.M = Some CentsThenFives
ladder_by letter.N = Some FivesThenTens
ladder_by letter.B = None
ladder_by letter.S = None
ladder_by letter.C = None
ladder_by letter.L = None
ladder_by letter.I = None
ladder_by letter.K = None
ladder_by letter.R = None
ladder_by letter.D = None
ladder_by (letter.Unlisted c) = None

-- B buys, S sells
abbrev pub side_by : Letter → Option Side
side_by letter.P = None
side_by letter.M = None
side_by letter.N = None
side_by letter.B = Some Buy
side_by letter.S = Some Sell
side_by letter.C = None
side_by letter.L = None
side_by letter.I = None
side_by letter.K = None
side_by letter.R = None
side_by letter.D = None
side_by (letter.Unlisted c) = None

-- C is a public customer, N anyone else
abbrev pub origin_by : Letter → Option Origin
origin_by letter.P = None
origin_by letter.M = None
origin_by letter.N = Some Other
origin_by letter.B = None
origin_by letter.S = None
origin_by letter.C = Some Customer
origin_by letter.L = None
origin_by letter.I = None
origin_by letter.K = None
origin_by letter.R = None
origin_by letter.D = None
origin_by (letter.Unlisted c) = None

-- L limit, M market, I immediate, K all or none
abbrev pub kind_by : Letter → Option Kind
kind_by letter.P = None
kind_by letter.M = Some Market
kind_by letter.N = None
kind_by letter.B = None
kind_by letter.S = None
kind_by letter.C = None
kind_by letter.L = Some Limit
kind_by letter.I = Some Immediate
kind_by letter.K = Some AllOrNone
kind_by letter.R = None
kind_by letter.D = None
kind_by (letter.Unlisted c) = None

-- R may be routed, D not
abbrev pub mark_by : Letter → Option Mark
mark_by letter.P = None
mark_by letter.M = None
mark_by letter.N = None
mark_by letter.B = None
mark_by letter.S = None
mark_by letter.C = None
mark_by letter.L = None
mark_by letter.I = None
mark_by letter.K = None
mark_by letter.R = Some Route
mark_by letter.D = Some DoNotRoute
mark_by (letter.Unlisted c) = None
