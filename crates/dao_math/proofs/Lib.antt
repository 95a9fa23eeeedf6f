mod FieldBytes
