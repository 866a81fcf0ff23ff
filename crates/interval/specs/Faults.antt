-- The numbers of the causes of a refusal and of the layers that refuse, and what a refusal holds.
use Rattle.std.specs.Prelude.{ℕ, Some, None}
use Rattle.interval.specs.declared.fault.Cause.{Cause}
use Rattle.interval.specs.declared.fault.Cause.TheVariants.{Truncated, ByteOrder, TypeCode, PartType, TooDeep, TrailingBytes, WrongSlip, PageOpen, TableFull, NoSuchPage, NanEnd, Downward, TableCode}
use Rattle.interval.specs.declared.fault.Layer.{Layer}
use Rattle.interval.specs.declared.fault.Layer.TheVariants.{Bytes, ShapeTable, Book, Window}
use Rattle.interval.specs.declared.fault.Fault.{Fault}

abbrev pub number : Cause → ℕ
number Truncated = 1
number ByteOrder = 2
number TypeCode = 3
number PartType = 4
number TooDeep = 5
number TrailingBytes = 6
number WrongSlip = 7
number PageOpen = 8
number TableFull = 9
number NoSuchPage = 10
number NanEnd = 11
number Downward = 12
number TableCode = 13

-- what refuses: the bytes, the shape table, the book or the window
abbrev pub layer : Cause → Layer
layer Truncated = Bytes
layer ByteOrder = Bytes
layer TypeCode = Bytes
layer PartType = Bytes
layer TooDeep = Bytes
layer TrailingBytes = Bytes
layer WrongSlip = Book
layer PageOpen = Book
layer TableFull = Book
layer NoSuchPage = Book
layer NanEnd = Window
layer Downward = Window
layer TableCode = ShapeTable

abbrev pub layer_number : Layer → ℕ
layer_number Bytes = 1
layer_number ShapeTable = 2
layer_number Book = 3
layer_number Window = 4

-- a refusal where no page was added
abbrev pub at : Cause → ℕ → Fault
at c n = record { cause = c; place = n; page = None }

-- the same refusal with the page that was being filled or asked for
abbrev pub on_page : Fault → ℕ → Fault
on_page f n = record { cause = f.cause; place = f.place; page = Some n }
