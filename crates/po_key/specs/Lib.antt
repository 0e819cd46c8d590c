pub mod ShapeWords
