-- What a book holds. Assumes nothing.
--     orders_of b         the resting orders, place by place
use Rattle.std.specs.Prelude.{List}
use Rattle.rules.specs.declared.Order.{Order}
use Rattle.table.specs.Tables.{orders_in}
use Rattle.book.specs.declared.book.Book.{Book}

abbrev pub orders_of : Book → List Order
orders_of b = orders_in b.orders
